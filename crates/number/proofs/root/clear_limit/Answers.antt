-- `number::root::clear_limit` meets its contract. Assumes nothing.
use lib.Ieee.{of_bits}
use Rattle.number.proofs.root.clear_limit.Goals as goal

pub returns : goal.returns
unfolding of_bits
returns c = c.pick.ensures
