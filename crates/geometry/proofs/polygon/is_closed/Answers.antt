-- `geometry::polygon::is_closed` meets its contract. Assumes nothing.
use borrow.Author.Tests.{lt-ltb, le-ltb}
use Rattle.geometry.specs.Making.{closed}
use Rattle.geometry.proofs.polygon.is_closed.Goals as goal

pub returns-then-n-le1 : goal.returns-then-n-le1
unfolding closed
returns-then-n-le1 g c = rw (← c.vertex_count-n.ensures, le-ltb _ _ c.if-n-le1.true)

pub returns : goal.returns
unfolding closed
returns g c =
    let e = rw (c.vertex-2.ensures, c.vertex.ensures) at c.same_point.ensures in
    rw (← c.vertex_count-n.ensures, lt-ltb _ _ c.if-n-le1.false) e
