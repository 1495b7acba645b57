-- `geometry::polygon::location` meets its contract. Assumes nothing.
use Rattle.geometry.specs.Polygon.{locate_of}
use Rattle.geometry.proofs.polygon.location.Goals as goal

pub returns-then-on_boundary : goal.returns-then-on_boundary
unfolding locate_of
returns-then-on_boundary c = rw (← c.on_boundary.ensures, c.if-on_boundary.true)

pub returns-then-holds : goal.returns-then-holds
unfolding locate_of
returns-then-holds c =
    rw (← c.on_boundary.ensures, c.if-on_boundary.false, ← c.holds.ensures, c.if-holds.true)

pub returns-else-holds : goal.returns-else-holds
unfolding locate_of
returns-else-holds c =
    rw (← c.on_boundary.ensures, c.if-on_boundary.false, ← c.holds.ensures, c.if-holds.false)
