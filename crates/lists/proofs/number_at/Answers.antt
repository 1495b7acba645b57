-- `lists::number_at` meets its contract: 0 / 0 is NaN. Assumes nothing.
use lib.Ieee.{div, of_bits}
use Rattle.lists.proofs.number_at.Goals as goal

pub returns : goal.returns
unfolding div of_bits
returns c = c.at.ensures
