-- `distance::ellipse::ellipse_near` meets its contract. Assumes nothing.
use lib.Ieee.{of_bits}
use Rattle.distance.specs.Ellipse.{ellipse_near}
use Rattle.distance.proofs.ellipse.ellipse_near.Goals as goal

pub returns : goal.returns
unfolding ellipse_near of_bits
returns c = rw (c.hypot.ensures, c.ellipse_foot-q.ensures)
