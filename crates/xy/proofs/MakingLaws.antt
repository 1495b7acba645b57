-- Making's tests and what making writes, by place; numbers on the grid pass tests 5 and 6. Assumes nothing.
use Rattle.std.proofs.Common.{Ok, Err}
use mathlib.Core.Path.{◌≡◌, refl, sym, ap, ◌∙◌}
use mathlib.Core.Bool.{Bool, true, false, not, cond, ◌&&◌}
use mathlib.Core.List.{List, reverse}
use Prim.Native.Nat.{ℕ, ◌+◌, ◌-◌, ◌*◌, ◌%◌, ◌≤◌, ◌<◌}
use native.Mathlib.Omega.{arith}
use borrow.Author.Tests.{ne_eqb, ltb-true}
use lib.Dec.{eqb, ltb}
use lib.IntN.{ℤ}
use lib.ListN.{length, length-reverse}
use lib.Seq.{take-length}
use lib.Ieee.{Float}
use Rattle.lists.proofs.FoldLaws.{any_never}
use Rattle.lists.proofs.MemberLaws.{any_each}
use Rattle.boundary.specs.Outline.{count, vertices, edges}
use Rattle.boundary.proofs.OutlineLaws.{length_vertices}
use Rattle.accept.specs.declared.Refusal.{Refusal}
use Rattle.accept.specs.declared.Refusal.TheVariants.{TooFew, TooMany, BeyondReach}
use Rattle.accept.specs.Area.{area_of}
use Rattle.accept.specs.Refusals.{count_tested, Test, all_passed, ◌refusing◌when◌, given, not_finite, outside_field, equal_neighbours, negative_area, size_tested, values_tested, shape_tested}
use Rattle.accept.specs.Verdicts.{edges_verdict}
use Rattle.accept.proofs.TestLaws.{refusing_passed, both_passed}
use Rattle.geometry.specs.Making.{closed, kept, turned, made_of}
use Rattle.geometry.proofs.CoordinateLaws.{length_numbers}
use Rattle.grid.specs.Grid.{OutlineOn}
use Rattle.grid.proofs.GridLaws.{grid_finite}
use Rattle.exact.proofs.Tests.{grid_in_field}
use Rattle.stream.specs.Records.{any_far}
use Rattle.xy.specs.declared.Makings.{Makings}
use Rattle.xy.specs.Outlines.{numbers_of, xy_tested, numbers_from}
use Rattle.xy.proofs.NumberLaws.{length_from, count_from, take_from}

-- ---- the tests
pub even_from : (s : List ℕ) (from n : ℕ) → from + 8 * n ≤ length s → eqb (length (numbers_from s from n) % 2) 1 ≡ false
even_from s from n room = let e = length_from s from n room in ne_eqb _ 1 (λ (o : length (numbers_from s from n) % 2 ≡ 1). omega arith)

-- numbers on the grid pass 5 and 6, so that 7 and 8 decide
pub grid_values : (v : List Float) → OutlineOn v → edges_verdict (equal_neighbours v) (area_of (edges v)) ≡ given (values_tested v) (Ok (area_of (edges v))) Err
unfolding values_tested edges_verdict given
grid_values v g =
    let finite : not_finite v ≡ false = any_each (λ x z k. ap not (grid_finite k)) g.on ∙ any_never g.steps in
    let inside : outside_field v ≡ false = any_each (λ x z k. ap not (grid_in_field k)) g.on ∙ any_never g.steps in
    rw (finite, inside)

-- so that 7 and 8 decide where 1, 3 and 4 are passed
pub grid_tested : (v : List Float) → eqb (length v % 2) 1 ≡ false → ltb (count v) 3 ≡ false → ltb 4096 (count v) ≡ false → OutlineOn v
    → edges_verdict (equal_neighbours v) (area_of (edges v)) ≡ given (shape_tested v) (Ok (area_of (edges v))) Err
unfolding shape_tested count_tested given
grid_tested v e l h g = rw (e, l, h) (grid_values v g)

-- 3 and 4 are passed
pub size_passed : (n : ℕ) → size_tested n ≡ all_passed → (ltb n 3 ≡ false) × (ltb 4096 n ≡ false)
unfolding size_tested
size_passed n e =
    let few = refusing_passed (all_passed refusing TooFew when ltb n 3) TooMany (ltb 4096 n) e in
    ((refusing_passed all_passed TooFew (ltb n 3) few.0).1, few.1)

-- those that follow the record: where a step is beyond the reach, and where none is
module _ (zs : List ℤ) where
  pub tested_far : any_far zs ≡ true → xy_tested zs ≡ Err BeyondReach
  unfolding xy_tested given ◌refusing◌when◌
  tested_far e = rw e

  pub tested_rest : any_far zs ≡ false → xy_tested zs ≡ shape_tested (kept (numbers_of zs))
  unfolding xy_tested given ◌refusing◌when◌
  tested_rest e = rw e

  tested_both : xy_tested zs ≡ all_passed → ((all_passed refusing BeyondReach when any_far zs) ≡ all_passed) × (shape_tested (kept (numbers_of zs)) ≡ all_passed)
  unfolding xy_tested
  tested_both e = both_passed (all_passed refusing BeyondReach when any_far zs) (shape_tested (kept (numbers_of zs))) e

  -- they are passed where no step is beyond the reach and making's tests are passed, and only there
  pub tested_near : xy_tested zs ≡ all_passed → any_far zs ≡ false
  tested_near e = (refusing_passed all_passed BeyondReach (any_far zs) (tested_both e).0).1

  pub tested_makes : xy_tested zs ≡ all_passed → shape_tested (kept (numbers_of zs)) ≡ all_passed
  tested_makes e = (tested_both e).1

  pub near_makes_tested : any_far zs ≡ false → shape_tested (kept (numbers_of zs)) ≡ all_passed → xy_tested zs ≡ all_passed
  near_makes_tested e h = tested_rest e ∙ h

-- ---- what is kept
first_of : (x y : Bool) → (x && y) ≡ true → x ≡ true
first_of true y e = refl
first_of false y e = e

module _ (s : List ℕ) (from n : ℕ) (room : from + 8 * n ≤ length s) where
  abbrev v : List Float
  v = numbers_from s from n

  -- a closing vertex is not the only one
  pub closed_more : closed v ≡ true → 1 < n
  unfolding closed
  closed_more h =
      let l = ltb-true 1 (count v) (first_of (ltb 1 (count v)) _ h) in
      let e = count_from s from n room in
      omega arith

  -- the last vertex repeats the first, or it does not
  pub kept_closed : closed v ≡ true → numbers_from s from (n - 1) ≡ kept v
  unfolding kept
  kept_closed h =
      let l = closed_more h in
      let d : length v - 2 ≡ 2 * (n - 1) = let k = length_from s from n room in omega arith in
      rw (h, d) (sym (take_from s from n room (n - 1) (omega arith)))

  pub kept_open : closed v ≡ false → numbers_from s from n ≡ kept v
  unfolding kept
  kept_open h = rw h (sym (take-length v))

-- the made outline has as many vertices as are kept
pub made_length : (v : List Float) → length (made_of v) ≡ 2 * count (kept v)
unfolding made_of turned
made_length v = length_numbers _ ∙ ap (λ (k : ℕ). 2 * k) (as_many (negative_area (kept v)))
  where
    as_many : (b : Bool) → length (cond b (reverse (vertices (kept v))) (vertices (kept v))) ≡ count (kept v)
    as_many true = length-reverse (vertices (kept v)) ∙ length_vertices (kept v)
    as_many false = length_vertices (kept v)

-- ---- what the tests hand over
pub whole_passed : (t : Test) (k m : Makings) → given t (Ok k) Err ≡ Ok m → (t ≡ all_passed) × (k ≡ m)
unfolding given
whole_passed (Ok _) k m e = (refl, cc)
whole_passed (Err r) k m e = absurd (let z : ◌≡◌ {A = ℕ} 0 1 = cc in omega arith)

pub unmade_failed : (t : Test) (k : Makings) (r : Refusal) → given t (Ok k) Err ≡ Err r → t ≡ Err r
unfolding given
unmade_failed (Ok _) k r e = absurd (let z : ◌≡◌ {A = ℕ} 0 1 = cc in omega arith)
unmade_failed (Err q) k r e = let h : q ≡ r = cc in rw h
