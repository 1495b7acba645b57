-- `fill::within::row_within` meets its contract: the vertices so far are in the cell. Assumes nothing.
use mathlib.Core.Path.{◌≡◌}
use mathlib.Core.Bool.{true}
use Prim.Native.Nat.{ℕ, ◌+◌, ◌<◌}
use Rattle.boundary.specs.Boxes.{Inside}
use Rattle.boundary.specs.Outline.{vertex_at}
use Rattle.fill.proofs.within.row_within.Given as goal

abbrev pub invariant-loop-j : goal.invariant-loop-j
invariant-loop-j l = l.all ≡ true → (k : ℕ) → k < l.j → Inside (vertex_at l.v (l.i + k)) l.c
