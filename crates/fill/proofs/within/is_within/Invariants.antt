-- `fill::within::is_within` meets its contract: the vertices so far are in the cell. Assumes nothing.
use Prim.Native.Nat.{ℕ, ◌<◌}
use Rattle.boundary.specs.Boxes.{Inside}
use Rattle.boundary.specs.Outline.{vertex_at}
use Rattle.fill.proofs.within.is_within.Given as goal

abbrev pub invariant-loop-i : goal.invariant-loop-i
invariant-loop-i l = (k : ℕ) → k < l.i → Inside (vertex_at l.v k) l.c
