-- A record that passes the tests, an outline that joins those before it, and a set within its sizes, in the format's words. Assumes nothing.
use mathlib.Core.Path.{◌≡◌, ◌∙◌}
use mathlib.Core.Bool.{false, ◌&&◌}
use mathlib.Core.List.{List, [], ◌∷◌, ◌++◌}
use Prim.Native.Nat.{ℕ, ◌≤◌}
use native.Mathlib.Omega.{arith}
use borrow.Author.Tests.{ltb-false, le-ltb}
use lib.Dec.{eqb, ltb}
use lib.IntN.{ℤ, nat_abs}
use lib.ListN.{length, length-append}
use Rattle.lists.proofs.FoldLaws.{or_none, any_never, every_fails, any_same}
use Rattle.lists.proofs.MemberLaws.{each_all}
use Rattle.boundary.specs.Outline.{count}
use Rattle.accept.specs.declared.Refusal.TheVariants.{TooMany, BadRecord, OtherUnit}
use Rattle.accept.specs.Refusals.{all_passed, ◌refusing◌when◌}
use Rattle.accept.proofs.TestLaws.{refusing_passed}
use Rattle.set.specs.Tests.{over_size}
use Rattle.stream.specs.declared.Awaited.{Awaited}
use Rattle.stream.specs.Format.{UNITS}
use Rattle.stream.specs.Records.{record_type, record_data, astray, cut_short, misfit, other_unit, far_step, any_far}
use Rattle.xy.specs.Outlines.{xy_tested}
use Rattle.xy.proofs.MakingLaws.{tested_near, tested_makes, near_makes_tested}
use Rattle.gdsii.specs.Reading.{set_of, counts_of, record_tested, joining_tested}
use Rattle.gdsii.specs.Accepted.{WithinReach, Makes}
use Rattle.gdsii.proofs.SizeLaws.{count_append, length_counts}

-- ---- all tests of a record passed
pub record Clean (then : Awaited) (s : List ℕ) : Type 0 where
  pub whole : cut_short s ≡ false
  pub ordered : astray then ≡ false
  pub fitting : misfit (record_type s) (length (record_data s)) ≡ false
  pub measured : (eqb (record_type s) UNITS && other_unit (record_data s)) ≡ false

pub passed_clean : (then : Awaited) (s : List ℕ) → record_tested then s ≡ all_passed → Clean then s
unfolding record_tested
passed_clean then s e =
    let fits = misfit (record_type s) (length (record_data s)) in
    let t₁ = all_passed refusing BadRecord when cut_short s in
    let t₂ = t₁ refusing BadRecord when astray then in
    let t₃ = t₂ refusing BadRecord when fits in
    let e₄ = refusing_passed t₃ OtherUnit (eqb (record_type s) UNITS && other_unit (record_data s)) e in
    let e₃ = refusing_passed t₂ BadRecord fits e₄.0 in
    let e₂ = refusing_passed t₁ BadRecord (astray then) e₃.0 in
    record { whole = (refusing_passed all_passed BadRecord (cut_short s) e₂.0).1; ordered = e₂.1; fitting = e₃.1; measured = e₄.1 }

pub clean_passed : {then : Awaited} {s : List ℕ} → Clean then s → record_tested then s ≡ all_passed
unfolding record_tested ◌refusing◌when◌
clean_passed c = rw (c.whole, c.ordered, c.fitting, c.measured)

-- ---- the coordinates
pub near_within : (zs : List ℤ) → any_far zs ≡ false → WithinReach zs
near_within zs e = each_all zs (λ z h. ltb-false 1048576 (nat_abs z) h) (every_fails far_step zs e)

pub within_near : (zs : List ℤ) → WithinReach zs → any_far zs ≡ false
within_near zs w = any_same far_step (λ z. false) zs (each_all zs (λ z h. le-ltb 1048576 (nat_abs z) h) w) ∙ any_never zs

-- ---- the sizes of a set
pub record Small (zss : List (List ℤ)) : Type 0 where
  pub outlines : length zss ≤ 1024
  pub vertices : count (set_of zss) ≤ 65536

pub none_small : Small []
unfolding set_of
none_small = record { outlines = omega arith; vertices = omega arith }

-- what comes first is no larger
pub small_first : (zss yss : List (List ℤ)) → Small (zss ++ yss) → Small zss
small_first zss yss h =
    let n = length-append zss yss in
    let c = count_append zss yss in
    let o = h.outlines in
    let v = h.vertices in
    record { outlines = omega arith; vertices = omega arith }

sized_small : (zss : List (List ℤ)) → over_size (set_of zss) (counts_of zss) ≡ false → Small zss
sized_small zss e =
    let h = or_none (ltb 1024 (length (counts_of zss))) (ltb 65536 (count (set_of zss))) e in
    let n = length_counts zss in
    let o = ltb-false 1024 (length (counts_of zss)) h.0 in
    record { outlines = omega arith; vertices = ltb-false 65536 (count (set_of zss)) h.1 }

small_sized : (zss : List (List ℤ)) → Small zss → over_size (set_of zss) (counts_of zss) ≡ false
small_sized zss h =
    let n = length_counts zss in
    let o = h.outlines in
    rw (le-ltb 1024 (length (counts_of zss)) (omega arith), le-ltb 65536 (count (set_of zss)) h.vertices)

-- ---- an outline after others
pub record Joined (zss : List (List ℤ)) (zs : List ℤ) : Type 0 where
  pub within : WithinReach zs
  pub made : Makes zs
  pub small : Small (zss ++ zs ∷ [])

pub passed_joined : (zss : List (List ℤ)) (zs : List ℤ) → joining_tested zss zs ≡ all_passed → Joined zss zs
unfolding joining_tested
passed_joined zss zs e =
    let yss = zss ++ zs ∷ [] in
    let h = refusing_passed (xy_tested zs) TooMany (over_size (set_of yss) (counts_of yss)) e in
    record { within = near_within zs (tested_near zs h.0); made = tested_makes zs h.0; small = sized_small yss h.1 }

pub joined_passed : {zss : List (List ℤ)} {zs : List ℤ} → Joined zss zs → joining_tested zss zs ≡ all_passed
unfolding joining_tested ◌refusing◌when◌
joined_passed {zss} {zs} j =
    let t = near_makes_tested zs (within_near zs j.within) j.made in
    rw (t, small_sized (zss ++ zs ∷ []) j.small)
