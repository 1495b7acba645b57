-- `distance::ellipse::ellipse_foot` meets its contract. Assumes nothing.
use Rattle.distance.specs.Ellipse.{ellipse_foot}
use Rattle.distance.proofs.ellipse.ellipse_foot.Goals as goal

pub returns : goal.returns
unfolding ellipse_foot
returns c = rw c.ellipse_nearest-q.ensures
