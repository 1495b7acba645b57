-- `boundary::out_along` meets its contract. Assumes nothing.
use lib.Ieee.{of_bits}
use Rattle.boundary.specs.Boxes.{out_along}
use Rattle.boundary.proofs.out_along.Goals as goal

pub returns : goal.returns
unfolding out_along of_bits
returns c = rw (c.greater_of-2.ensures, c.greater_of.ensures)
