-- `boundary::line_length` meets its contract. Assumes nothing.
use Rattle.boundary.specs.Length.{edge_length}
use Rattle.boundary.proofs.line_length.Goals as goal

pub returns : goal.returns
unfolding edge_length
returns c = c.hypot.ensures
