-- `clip::parts::point_at` meets its contract. Assumes nothing.
use Rattle.clip.specs.Clip.{point_along}
use Rattle.clip.proofs.parts.point_at.Goals as goal

pub returns : goal.returns
unfolding point_along
returns c = rw (c.along-2.ensures, c.along.ensures)
