-- `boundary::line::line_nearest` meets its contract. Assumes nothing.
use Rattle.boundary.specs.Line.{line_near}
use Rattle.boundary.proofs.line.line_nearest.Goals as goal

pub returns : goal.returns
unfolding line_near
returns c =
    rw (c.normal.ensures, c.hypot.ensures, c.foot-q.ensures)
