-- `geometry::polygon::write` meets its contract: the points so far stand at the front, and the places past them are as they were. Assumes nothing.
use mathlib.Core.Path.{refl}
use native.Mathlib.Nat.{le_antisymm}
use borrow.Author.Rules.{rules}
use lib.ListN.{length-set}
use Rattle.lists.specs.Lists.{run}
use Rattle.geometry.specs.Making.{coordinates_of}
use Rattle.geometry.proofs.WriteLaws.{point_at, write_more, write_all}
use Rattle.geometry.proofs.polygon.write.Goals as goal

pub loop-i-init : goal.loop-i-init
unfolding coordinates_of run
loop-i-init g c = refl

pub bounds-out-i-in-loop-i : goal.bounds-out-i-in-loop-i
bounds-out-i-in-loop-i g c = simp length-set (search rules)

pub loop-i-preserved : goal.loop-i-preserved
loop-i-preserved g c =
    let a = c.args in
    rw (c.vertex-p.ensures, c.source.ensures.0, c.vertex_count-n.ensures) (write_more (point_at (g.V.Vertices.numbers a.v) a.back) _ _ _ c.loop-i.invariant (search rules))

pub returns : goal.returns
returns g c =
    let n = le_antisymm (search rules) c.loop-i-test.false in
    rw (write_all, ← c.vertex_count-n.ensures, ← n) c.loop-i.invariant
