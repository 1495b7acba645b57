-- `geometry::polygon::is_between` meets its contract. Assumes nothing.
use Rattle.geometry.proofs.polygon.is_between.Goals as goal

pub returns : goal.returns
returns c = rw (c.greater_of.ensures, c.lesser_of.ensures)
