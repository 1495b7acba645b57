-- `clip::parts::marked` meets its contract. Assumes nothing.
use Rattle.clip.specs.Passes.{marks_of}
use Rattle.clip.proofs.parts.marked.Goals as goal

pub returns : goal.returns
unfolding marks_of
returns c = rw (c.between.ensures, c.coord-2.ensures, c.coord.ensures)
