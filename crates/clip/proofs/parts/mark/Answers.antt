-- `clip::parts::mark` meets its contract. Assumes nothing.
use Rattle.clip.specs.Passes.{mark_at}
use Rattle.clip.proofs.parts.mark.Goals as goal

pub returns : goal.returns
unfolding mark_at
returns c = rw (c.is_inside.ensures, c.along.ensures)
