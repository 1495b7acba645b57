-- `number::root::squares` meets its contract. Assumes nothing.
use lib.Ieee.{of_bits}
use Rattle.number.proofs.root.squares.Goals as goal

pub returns : goal.returns
unfolding of_bits
returns c = rw c.abs-m.ensures
