-- `boundary::hulls::around` meets its contract. Assumes nothing.
use Rattle.boundary.specs.Boxes.{hull}
use Rattle.boundary.proofs.hulls.around.Goals as goal

pub returns : goal.returns
unfolding hull
returns c = rw (c.greater_of-2.ensures, c.greater_of.ensures, c.lesser_of-2.ensures, c.lesser_of.ensures)
