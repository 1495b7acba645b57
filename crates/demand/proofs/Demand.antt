-- Demand 3 of every accepted set that has an outline and every query point, all on the grid. Assumes nothing.
use Rattle.std.proofs.Common.{Some}
use Rattle.std.proofs.Common.{Ok}
use mathlib.Core.Path.{◌≡◌, sym, ap, ◌∙◌}
use mathlib.Core.Bool.{false, not}
use mathlib.Core.List.{List}
use Prim.Native.Nat.{ℕ, ◌<◌}
use native.Mathlib.Omega.{arith}
use borrow.Author.Tests.{ne_eqb}
use lib.Dec.{T}
use lib.ListN.{length}
use lib.Ieee.{Float, inf, is_nan}
use Rattle.number.specs.Signs.{abs_of}
use Rattle.number.proofs.OrderLaws.{below_le, left_not_nan}
use Rattle.number.proofs.Values.{abs_is, below_infinity}
use Rattle.boundary.specs.declared.Point.{Point}
use Rattle.boundary.specs.declared.Distance.{Distance}
use Rattle.distance.specs.Nearest.{nearest_of, signed_of}
use Rattle.boundary.specs.Outline.{edges}
use Rattle.geometry.specs.Polygon.{contains_of}
use Rattle.accept.specs.Refusals.{all_passed, ◌refusing◌when◌, given}
use Rattle.geometry.specs.Answers.{outline_query_tested, distance_answer}
use Rattle.index.specs.Buffer.{IndexBuffer, short_buffer}
use Rattle.set.specs.Set.{Outline, outlines_of, outline_in}
use Rattle.set.specs.Tests.{set_tested, set_query_tested}
use Rattle.set.specs.Answers.{query_outcome}
use Rattle.set.proofs.SetLaws.{outlines_length, outline_passes}
use Rattle.search.specs.Least.{magnitude_of, magnitude_at, least_in}
use Rattle.search.proofs.LeastLaws.{least_of_lem}
use Rattle.nearest.specs.Nearest.{nearest_in}
use Rattle.nearest.specs.Answers.{nearest_outcome}
use Rattle.nearest.proofs.NearestLeast.{least_is}
use Rattle.grid.specs.Grid.{OutlineOn}
use Rattle.grid.specs.Whole.{PointZ}
use Rattle.exact.specs.Grid.{PointOn}
use Rattle.exact.proofs.OneOutline.{grid_exact}
use Rattle.exact.proofs.Tests.{grid_in_field}
use Rattle.exact.specs.OneOutline.{OutlineExact}
use Rattle.demand.specs.Demand.{Demand3}
use Rattle.demand.proofs.OutlineLaws.{outline_on}

module _ (v : List Float) (cs : List ℕ) (passed : set_tested v cs ≡ all_passed) (some : 0 < length cs) (grid : OutlineOn v) {p : Point} {q : PointZ} (on : PointOn p q) where
  abbrev os : List Outline
  os = outlines_of v cs

  outlines_some : 0 < length os
  outlines_some = let n = outlines_length v cs in omega arith

  outline_exact : (k : ℕ) → k < length os → OutlineExact (outline_in os k) p q
  outline_exact k l = grid_exact (outline_on v cs grid k) (outline_passes v cs passed k l) on

  -- the distance that the call answers is the one whose magnitude is taken
  magnitude_is : (k : ℕ) (l : k < length os) → magnitude_at os p k ≡ abs_of (outline_exact k l).distance.d
  unfolding magnitude_of distance_answer outline_query_tested given ◌refusing◌when◌
  magnitude_is k l =
      let o = outline_in os k in
      let e = outline_exact k l in
      let s = signed_of (nearest_of (edges o) p) p (contains_of (edges o) p) in
      let f : distance_answer o p ≡ Ok s = rw (outline_passes v cs passed k l, grid_in_field on.x, grid_in_field on.y) in
      let g : Ok s ≡ Ok e.distance = sym f ∙ e.distance_answer_lem in
      let h : s ≡ e.distance = cc in
      ap (λ (x : Distance). abs_of x.d) h

  -- a magnitude is a number
  number : (k : ℕ) → k < length os → T (not (is_nan (magnitude_at os p k)))
  number k l =
      let e = outline_exact k l in
      let m = abs_of e.distance.d in
      rw (magnitude_is k l) (left_not_nan m (inf false) (below_le m (inf false) (below_infinity (abs_is e.distance_near.is))))

  -- the query passes the tests
  answered : (B : IndexBuffer) → short_buffer B ≡ false → (nearest_outcome v cs p B).answer ≡ Ok (Some (least_in os p))
  unfolding nearest_outcome query_outcome given set_query_tested ◌refusing◌when◌ nearest_in
  answered B short = rw (passed, grid_in_field on.x, grid_in_field on.y, short, ne_eqb (length os) 0 (λ z. let s = outlines_some in omega arith))

  pub demand_3 : Demand3 v cs p q
  demand_3 =
      let best = least_in os p in
      record {
        outlines = outline_exact;
        magnitudes = magnitude_is;
        nearest = record { best = best; answer = answered; is = least_is os p best (least_of_lem (magnitude_at os p) (length os) outlines_some number) };
      }
