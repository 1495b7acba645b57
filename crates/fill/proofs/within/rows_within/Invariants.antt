-- `fill::within::rows_within` meets its contract: the rows so far are in the cell. Assumes nothing.
use Prim.Native.Nat.{ℕ, ◌*◌, ◌<◌}
use Rattle.boundary.specs.Boxes.{Inside}
use Rattle.boundary.specs.Outline.{vertex_at}
use Rattle.fill.proofs.within.rows_within.Given as goal

abbrev pub invariant-loop-row : goal.invariant-loop-row
invariant-loop-row l = (k : ℕ) → k < 8 * l.row → Inside (vertex_at l.v k) l.c
