-- `distance::ellipse::root_in` meets its contract. Assumes nothing.
use lib.Ieee.{of_bits}
use Rattle.distance.specs.Ellipse.{root_in}
use Rattle.distance.proofs.ellipse.root_in.Goals as goal

pub returns : goal.returns
unfolding root_in of_bits
returns c = rw (c.halved.ensures, c.upper_end.ensures)
