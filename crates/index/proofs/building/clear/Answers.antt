-- `index::building::clear` meets its contract. Assumes nothing.
use lib.Ieee.{of_bits}
use Rattle.index.specs.Buffer.{cleared}
use Rattle.index.proofs.GrowLaws.{same_buffer}
use Rattle.index.proofs.building.clear.Goals as goal

pub returns : goal.returns
unfolding cleared of_bits
returns c = same_buffer c.clear.ensures
    c.clear-2.ensures c.clear-3.ensures
