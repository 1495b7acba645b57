-- Demand 3 of the set that a stream is read into, where it has an outline, at every query point on the grid: nothing else has to be tested. Assumes nothing.
use mathlib.Core.Path.{◌≡◌, ap}
use mathlib.Core.List.{List}
use Prim.Native.Nat.{ℕ, ◌<◌}
use native.Mathlib.Omega.{arith}
use lib.IntN.{ℤ}
use lib.ListN.{length}
use Rattle.boundary.specs.declared.Point.{Point}
use Rattle.grid.specs.Whole.{PointZ}
use Rattle.exact.specs.Grid.{PointOn}
use Rattle.gdsii.specs.Answers.{SetLent, read_call, vertices_left, counts_left}
use Rattle.gdsii.proofs.SizeLaws.{length_counts}
use Rattle.gdsii.proofs.AcceptedCalls.{ReadSet, call_reads}
use Rattle.demand.specs.Demand.{Demand3}
use Rattle.demand.proofs.Demand.{demand_3}

pub streams_demand_3 : (s : List ℕ) (L : SetLent) → (read_call s L).answer.number ≡ 0 → 0 < (read_call s L).answer.value.outlines
    → {p : Point} {q : PointZ} → PointOn p q → Demand3 (vertices_left s L) (counts_left s L) p q
streams_demand_3 s L e some {p} {q} on = go (call_reads s L e).1
  where
    go : {zss : List (List ℤ)} → ReadSet s L zss → Demand3 (vertices_left s L) (counts_left s L) p q
    go {zss} r =
        let n = r.outlines in
        let c = ap length r.counts in
        let k = length_counts zss in
        let has : 0 < length (counts_left s L) = omega arith in
        demand_3 (vertices_left s L) (counts_left s L) r.passed has r.grid on
