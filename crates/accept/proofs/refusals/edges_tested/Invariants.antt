-- `accept::refusals::edges_tested` meets its contract: what was summed so far and the edges that are left give both answers. Assumes nothing.
use mathlib.Core.Path.{◌≡◌}
use mathlib.Core.Bool.{Bool, false, ◌||◌}
use Prim.Native.Nat.{◌-◌, ◌<◌}
use lib.Ieee.{Float, binary64, add}
use Rattle.boundary.specs.declared.Edge.{Edge}
use Rattle.lists.specs.Lists.{run, fold, any, total}
use Rattle.boundary.specs.Outline.{same_point, count, vertex_at, edge_at, edges}
use Rattle.accept.specs.Area.{shoelace_term}
use Rattle.accept.proofs.refusals.edges_tested.Given as goal

abbrev joins : Edge → Bool
joins e = same_point e.a e.b

abbrev found : Bool → Edge → Bool
found b e = b || joins e

abbrev summed : Float → Edge → Float
summed s e = add binary64 s (shoelace_term e)

-- edge i starts at a, and no edge before it joins equal vertices
abbrev pub invariant-loop-i : goal.invariant-loop-i
invariant-loop-i g l =
    let v = g.V.Vertices.numbers l.v in
    (l.i < count v)
    × (l.a ≡ vertex_at v l.i)
    × (fold found false (run (edge_at v) l.i (count v - l.i)) ≡ any joins (edges v))
    × (fold summed l.sum (run (edge_at v) l.i (count v - l.i)) ≡ total shoelace_term (edges v))
