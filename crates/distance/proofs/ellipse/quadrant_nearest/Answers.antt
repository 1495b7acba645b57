-- `distance::ellipse::quadrant_nearest` meets its contract. Assumes nothing.
use lib.Ieee.{of_bits}
use Rattle.distance.specs.Ellipse.{quadrant_nearest}
use Rattle.distance.proofs.ellipse.quadrant_nearest.Goals as goal

pub returns-then-y0 : goal.returns-then-y0
unfolding quadrant_nearest of_bits
returns-then-y0 c = rw (c.if-y1.true, c.if-y0.true, c.off_axes.ensures)

pub returns-then-y1 : goal.returns-then-y1
unfolding quadrant_nearest of_bits
returns-then-y1 c = rw (c.if-y1.true, c.if-y0.false)

pub returns : goal.returns
unfolding quadrant_nearest of_bits
returns c = rw (c.if-y1.false, c.on_axis.ensures)
