-- `distance::ellipse::upper_end` meets its contract. Assumes nothing.
use lib.Ieee.{of_bits}
use Rattle.distance.specs.Ellipse.{upper_end}
use Rattle.distance.proofs.ellipse.upper_end.Goals as goal

pub returns-then-g : goal.returns-then-g
unfolding upper_end of_bits
returns-then-g c = rw c.if-g.true

pub returns : goal.returns
unfolding upper_end of_bits
returns c = rw (c.if-g.false, c.hypot.ensures)
