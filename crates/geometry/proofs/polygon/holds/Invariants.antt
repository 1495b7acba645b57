-- `geometry::polygon::holds` meets its contract: whether the edges so far count oddly, and the edges that are left, give whether all do, in the Rust's order. Assumes nothing.
use mathlib.Core.Path.{◌≡◌}
use mathlib.Core.Bool.{Bool}
use Prim.Native.Nat.{◌-◌, ◌<◌}
use lib.Ieee.{unlike, lt}
use Rattle.boundary.specs.declared.Point.{Point}
use Rattle.boundary.specs.declared.Edge.{Edge}
use Rattle.lists.specs.Lists.{run, fold}
use Rattle.boundary.specs.Outline.{count, vertex_at}
use Rattle.geometry.specs.Polygon.{crosses_of, previous, edge_into, contains_rust}
use Rattle.geometry.proofs.polygon.holds.Given as goal

abbrev step : Point → Bool → Edge → Bool
step p b e = unlike b (crosses_of p e)

-- j is the vertex before vertex i
abbrev pub invariant-loop-i : goal.invariant-loop-i
invariant-loop-i l =
    (0 < count l.v)
    × (l.j ≡ previous (count l.v) l.i)
    × (l.was ≡ lt l.p.y (vertex_at l.v l.j).y)
    × (fold (step l.p) l.inside (run (edge_into l.v) l.i (count l.v - l.i)) ≡ contains_rust l.v l.p)
