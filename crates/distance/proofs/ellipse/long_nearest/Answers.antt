-- `distance::ellipse::long_nearest` meets its contract. Assumes nothing.
use Rattle.distance.specs.Ellipse.{long_nearest}
use Rattle.distance.proofs.ellipse.long_nearest.Goals as goal

pub returns : goal.returns
unfolding long_nearest
returns c =
    rw (c.copysign-2.ensures, c.copysign.ensures, c.quadrant_nearest-q.ensures, c.abs-2.ensures, c.abs.ensures)
