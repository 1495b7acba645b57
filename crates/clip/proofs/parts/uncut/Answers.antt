-- `clip::parts::uncut` meets its contract. Assumes nothing.
use lib.Ieee.{of_bits}
use Rattle.clip.specs.Passes.{uncut_of}
use Rattle.clip.proofs.parts.uncut.Goals as goal

pub returns : goal.returns
unfolding uncut_of of_bits
returns c = rw c.mark-whole.ensures
