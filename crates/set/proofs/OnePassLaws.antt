-- The least number of a test that some member does not pass is the first test that any member does not pass, so one pass over the outlines says what the tests say one after the other. Assumes nothing.
use mathlib.Core.Path.{◌≡◌, refl, ap, ◌∙◌}
use mathlib.Core.Bool.{Bool, true, false, cond}
use mathlib.Core.List.{List}
use Prim.Native.Nat.{ℕ, ◌≤◌}
use native.Mathlib.Omega.{arith}
use Rattle.lists.specs.Lists.{any}
use Rattle.lists.proofs.FoldLaws.{least_first, least_none}
use Rattle.accept.specs.declared.Refusal.TheVariants.{NotFinite, OutsideField, EqualNeighbours, ZeroArea, NegativeArea}
use Rattle.accept.specs.Refusals.{all_passed, ◌refusing◌when◌, not_finite, outside_field, equal_neighbours, zero_area, negative_area, values_tested}
use Rattle.set.specs.Set.{Outline}
use Rattle.set.specs.Tests.{outlines_tested}
use Rattle.set.specs.OnePass.{first_failed, least_failed, test_at, rank_of}

at_least : (b : Bool) (k n m : ℕ) → k ≤ n → k ≤ m → k ≤ cond b n m
at_least true k n m h l = h
at_least false k n m h l = l

-- ---- the five tests
abbrev from9 : Outline → ℕ
from9 o = cond (negative_area o) 9 10

abbrev from8 : Outline → ℕ
from8 o = cond (zero_area o) 8 (from9 o)

abbrev from7 : Outline → ℕ
from7 o = cond (equal_neighbours o) 7 (from8 o)

abbrev from6 : Outline → ℕ
from6 o = cond (outside_field o) 6 (from7 o)

least_is : (os : List Outline) → least_failed os ≡ cond (any not_finite os) 5 (cond (any outside_field os) 6 (cond (any equal_neighbours os) 7 (cond (any zero_area os) 8 (cond (any negative_area os) 9 10))))
unfolding least_failed first_failed
least_is os =
    let nine : (k : ℕ) → k ≤ 9 → (o : Outline) → k ≤ from9 o = λ k h o. at_least (negative_area o) k 9 10 h (omega arith) in
    let eight : (k : ℕ) → k ≤ 8 → (o : Outline) → k ≤ from8 o = λ k h o. at_least (zero_area o) k 8 (from9 o) h (nine k (omega arith) o) in
    let seven : (k : ℕ) → k ≤ 7 → (o : Outline) → k ≤ from7 o = λ k h o. at_least (equal_neighbours o) k 7 (from8 o) h (eight k (omega arith) o) in
    let six : (k : ℕ) → k ≤ 6 → (o : Outline) → k ≤ from6 o = λ k h o. at_least (outside_field o) k 6 (from7 o) h (seven k (omega arith) o) in
    least_first not_finite from6 5 (six 5 (omega arith)) 10 os (omega arith)
    ∙ ap (cond (any not_finite os) 5) (least_first outside_field from7 6 (seven 6 (omega arith)) 10 os (omega arith)
    ∙ ap (cond (any outside_field os) 6) (least_first equal_neighbours from8 7 (eight 7 (omega arith)) 10 os (omega arith)
    ∙ ap (cond (any equal_neighbours os) 7) (least_first zero_area from9 8 (nine 8 (omega arith)) 10 os (omega arith)
    ∙ ap (cond (any zero_area os) 8) (least_first negative_area (λ _. 10) 9 (λ _. omega arith) 10 os (omega arith)
    ∙ ap (cond (any negative_area os) 9) (least_none 10 os)))))

pub least_tests : (os : List Outline) → test_at (least_failed os) ≡ outlines_tested os all_passed
unfolding outlines_tested
least_tests os = ap test_at (least_is os) ∙ go (any not_finite os) (any outside_field os) (any equal_neighbours os) (any zero_area os) (any negative_area os)
  where
    go : (a b c d e : Bool) → test_at (cond a 5 (cond b 6 (cond c 7 (cond d 8 (cond e 9 10)))))
        ≡ (all_passed refusing NotFinite when a refusing OutsideField when b refusing EqualNeighbours when c refusing ZeroArea when d refusing NegativeArea when e)
    go true b c d e = unfold test_at ◌refusing◌when◌ in refl
    go false true c d e = unfold test_at ◌refusing◌when◌ in refl
    go false false true d e = unfold test_at ◌refusing◌when◌ in refl
    go false false false true e = unfold test_at ◌refusing◌when◌ in refl
    go false false false false true = unfold test_at ◌refusing◌when◌ in refl
    go false false false false false = unfold test_at ◌refusing◌when◌ in refl

-- one outline's number is that of what its tests say
pub rank_first : (o : Outline) → rank_of (values_tested o refusing NegativeArea when negative_area o) ≡ first_failed o
unfolding values_tested first_failed
rank_first o = go (not_finite o) refl (outside_field o) refl (equal_neighbours o) refl (zero_area o) refl (negative_area o) refl
  where
    go : (a : Bool) → not_finite o ≡ a → (b : Bool) → outside_field o ≡ b → (c : Bool) → equal_neighbours o ≡ c → (d : Bool) → zero_area o ≡ d → (e : Bool) → negative_area o ≡ e → rank_of (values_tested o refusing NegativeArea when negative_area o) ≡ first_failed o
    go true p b q c r d s e t = rw p
    go false p true q c r d s e t = rw (p, q)
    go false p false q true r d s e t = rw (p, q, r)
    go false p false q false r true s e t = rw (p, q, r, s)
    go false p false q false r false s true t = rw (p, q, r, s, t)
    go false p false q false r false s false t = rw (p, q, r, s, t)
