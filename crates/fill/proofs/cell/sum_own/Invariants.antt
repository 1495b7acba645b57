-- `fill::cell::sum_own` meets its contract: the sum so far and the edges that are left give the whole. Assumes nothing.
use mathlib.Core.Path.{◌≡◌}
use Prim.Native.Nat.{◌-◌}
use lib.Ieee.{Float, binary64, add}
use Rattle.boundary.specs.declared.Edge.{Edge}
use Rattle.boundary.specs.Outline.{count, vertex_at, edge_at, edges}
use Rattle.lists.specs.Lists.{run, fold, total}
use Rattle.fill.specs.Fill.{xdy_of}
use Rattle.fill.proofs.cell.sum_own.Given as goal

abbrev summed : Float → Edge → Float
summed s e = add binary64 s (xdy_of e)

-- the edge before edge i starts at a
abbrev pub invariant-loop-i : goal.invariant-loop-i
invariant-loop-i l = (l.a ≡ vertex_at l.v (l.i - 1)) × (fold summed l.area (run (edge_at l.v) (l.i - 1) (count l.v - (l.i - 1))) ≡ total xdy_of (edges l.v))
