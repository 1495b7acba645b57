-- `boundary::length` meets its contract: the sum so far and the edges that are left give the length. Assumes nothing.
use mathlib.Core.Path.{◌≡◌}
use Prim.Native.Nat.{◌-◌}
use lib.Ieee.{Float, binary64, add}
use Rattle.boundary.specs.declared.Edge.{Edge}
use Rattle.lists.specs.Lists.{run, fold}
use Rattle.boundary.specs.Outline.{count, edge_at, edges}
use Rattle.boundary.specs.Length.{edge_length, length_of}
use Rattle.boundary.proofs.length.Given as goal

abbrev step : Float → Edge → Float
step s e = add binary64 s (edge_length e)

abbrev pub invariant-loop-i : goal.invariant-loop-i
invariant-loop-i l = fold step l.sum (run (edge_at l.v) l.i (count l.v - l.i)) ≡ length_of (edges l.v)
