-- `number::root::clearly_less` meets its contract. Assumes nothing.
use Rattle.std.proofs.Common.{refl}
use lib.Ieee.{of_bits}
use Rattle.number.specs.Hypot.{clearly_less}
use Rattle.number.proofs.root.clearly_less.Goals as goal

pub returns : goal.returns
unfolding clearly_less of_bits
returns c = refl
