-- `geometry::polygon::on_boundary` meets its contract: what was found so far and the edges that are left give the answer. Assumes nothing.
use mathlib.Core.Path.{◌≡◌}
use mathlib.Core.Bool.{Bool, ◌||◌}
use Prim.Native.Nat.{◌-◌}
use Rattle.boundary.specs.declared.Point.{Point}
use Rattle.boundary.specs.declared.Edge.{Edge}
use Rattle.lists.specs.Lists.{run, fold, any}
use Rattle.boundary.specs.Outline.{count, edge_at, edges}
use Rattle.geometry.specs.Polygon.{on_edge}
use Rattle.geometry.proofs.polygon.on_boundary.Given as goal

abbrev step : Point → Bool → Edge → Bool
step p b e = b || on_edge p e

abbrev pub invariant-loop-i : goal.invariant-loop-i
invariant-loop-i l = fold (step l.p) l.found (run (edge_at l.v) l.i (count l.v - l.i)) ≡ any (on_edge l.p) (edges l.v)
