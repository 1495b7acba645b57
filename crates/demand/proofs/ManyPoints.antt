-- Demand 3 at each point of a call for many points: the place of the point has the nearest answer that demand 3 speaks of. Assumes nothing.
use Rattle.accept.specs.Refusals.{all_passed}
use mathlib.Core.Path.{◌≡◌, ap, ap₂, ◌∙◌}
use mathlib.Core.List.{List}
use Prim.Native.Nat.{ℕ, ◌<◌}
use lib.ListN.{length}
use lib.Ieee.{Float}
use Rattle.boundary.specs.Outline.{count, vertex_at}
use Rattle.search.specs.declared.Best.{Best}
use Rattle.nearest.specs.declared.NearestFields.{NearestFields}
use Rattle.nearest.specs.Nearest.{nearest_fields}
use Rattle.nearest.specs.Answers.{nearest_call}
use Rattle.many.specs.Answers.{ManyLent, many_tested}
use Rattle.many.proofs.ManyLaws.{many_passed}
use Rattle.many.proofs.OneByOne.{outline_left, distance_left, one_by_one}
use Rattle.grid.specs.Grid.{OutlineOn}
use Rattle.grid.specs.Whole.{PointZ}
use Rattle.exact.specs.Grid.{PointOn}
use Rattle.demand.specs.Demand.{Demand3}
use Rattle.demand.proofs.Demand.{demand_3}

module _ (v : List Float) (cs : List ℕ) (ps : List Float) (L : ManyLent) (passed : many_tested v cs ps L ≡ all_passed) (some : 0 < length cs) where
  -- what the call leaves at place i
  abbrev left : ℕ → Best
  left i = record { outline = outline_left v cs ps L i; distance = distance_left v cs ps L i }

  least_left : (i : ℕ) → i < count ps → {q : PointZ} → (d : Demand3 v cs (vertex_at ps i) q) → left i ≡ d.nearest.best
  unfolding nearest_call
  least_left i l d =
      let h = many_passed v cs ps L passed in
      let e = one_by_one v cs ps L passed some i l L.buffer h.buffer ∙ ap nearest_fields (d.nearest.answer L.buffer h.buffer) in
      let o = ap (λ (a : NearestFields). a.outline) e in
      ap₂ (λ (k : ℕ) (x : Float). record { outline = k; distance = x }) o (ap (λ (a : NearestFields). a.distance) e)

  -- MANY POINTS of an accepted call, on the grid
  pub many_least : OutlineOn v → (i : ℕ) → i < count ps → {q : PointZ} → PointOn (vertex_at ps i) q
      → (d : Demand3 v cs (vertex_at ps i) q) × (left i ≡ d.nearest.best)
  many_least grid i l on = let d = demand_3 v cs (many_passed v cs ps L passed).set some grid on in (d, least_left i l d)
