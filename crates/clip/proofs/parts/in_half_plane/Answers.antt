-- `clip::parts::in_half_plane` meets its contract. Assumes nothing.
use Rattle.clip.specs.Clip.{in_half_plane}
use Rattle.clip.proofs.parts.in_half_plane.Goals as goal

pub returns : goal.returns
unfolding in_half_plane
returns c = rw (c.is_inside.ensures, c.coord.ensures)
