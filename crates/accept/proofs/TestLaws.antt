-- What passing the tests tells. Assumes nothing.
use mathlib.Core.Path.{◌≡◌, refl, sym, ap, ◌∙◌}
use Rattle.std.specs.Result.{IsErrAnd}
use Rattle.std.proofs.lemmas.Result.{err_from_is_err_and}
use mathlib.Core.Bool.{Bool, true, false, true≢false}
use mathlib.Core.List.{List}
use Prim.Native.Nat.{◌%◌, ◌≤◌, ◌<◌}
use native.Mathlib.Omega.{arith}
use borrow.Author.Tests.{ltb-false}
use lib.Dec.{eqb, ltb}
use lib.ListN.{length}
use lib.Ieee.{Float}
use Rattle.boundary.specs.Outline.{count}
use Rattle.accept.specs.declared.Refusal.{Refusal}
use Rattle.accept.specs.declared.Refusal.TheVariants.{OddCount, BadCounts, TooFew, TooMany, NotFinite, OutsideField, EqualNeighbours, ZeroArea, NegativeArea, BadPoint, BadBox, BadEllipse, ShortBuffer, LongList, BadPointCount, BadRecord, OtherUnit, BeyondReach}
use Rattle.std.proofs.Common.{Ok, Err}
use Rattle.accept.specs.Refusals.{Answer, Test, all_passed, number, ◌refusing◌when◌, given, not_finite, outside_field, equal_neighbours, zero_area, negative_area, size_tested, count_tested, values_tested, shape_tested, outline_tested}

-- ---- one test
abbrev failed : Test → Bool
failed (Ok _) = false
failed (Err r) = true

pub never : {r : Refusal} → Err r ≡ all_passed → ⊥
never e = true≢false (ap failed e)

-- a refusal's number is not 0
pub number_above : (r : Refusal) → 0 < number r
number_above OddCount = omega arith
number_above BadCounts = omega arith
number_above TooFew = omega arith
number_above TooMany = omega arith
number_above NotFinite = omega arith
number_above OutsideField = omega arith
number_above EqualNeighbours = omega arith
number_above ZeroArea = omega arith
number_above NegativeArea = omega arith
number_above BadPoint = omega arith
number_above BadBox = omega arith
number_above BadEllipse = omega arith
number_above ShortBuffer = omega arith
number_above LongList = omega arith
number_above BadPointCount = omega arith
number_above BadRecord = omega arith
number_above OtherUnit = omega arith
number_above BeyondReach = omega arith

-- a test after those before it is passed where they and it are
pub refusing_passed : (t : Test) (r : Refusal) (fails : Bool) → (t refusing r when fails) ≡ all_passed → (t ≡ all_passed) × (fails ≡ false)
unfolding ◌refusing◌when◌
refusing_passed (Ok _) r true e = absurd (never e)
refusing_passed (Ok _) r false e = (refl, refl)
refusing_passed (Err q) r fails e = absurd (never e)

-- ---- given a test
pub given_passed : {A : Type 0} {t : Test} → t ≡ all_passed → (a : A) (refused : Refusal → A) → given t a refused ≡ a
unfolding given
given_passed e a refused = rw e

pub given_failed : {A : Type 0} {t : Test} {r : Refusal} → t ≡ Err r → (a : A) (refused : Refusal → A) → given t a refused ≡ refused r
unfolding given
given_failed e a refused = rw e

-- what a function gives of it
pub given_map : {A B : Type 0} (f : A → B) (t : Test) (a : A) (refused : Refusal → A) → f (given t a refused) ≡ given t (f a) (λ r. f (refused r))
unfolding given
given_map f (Ok _) a refused = refl
given_map f (Err r) a refused = refl

-- what the test says
pub given_itself : (t : Test) → given t all_passed Err ≡ t
unfolding given
given_itself (Ok _) = refl
given_itself (Err r) = refl

-- tests after those of t are passed where both are
pub both_passed : (t u : Test) → given t u Err ≡ all_passed → (t ≡ all_passed) × (u ≡ all_passed)
unfolding given
both_passed (Ok _) u e = (refl, e)
both_passed (Err r) u e = absurd (never e)

-- ---- the refusal of a test, handed on
pub handed_on : {A : Type 0} {r : Answer A} {q : Refusal} → IsErrAnd r (λ e. e ≡ q) → r ≡ Err q
handed_on {A} {r} {q} h = let p = err_from_is_err_and r h in p.1 ∙ ap (λ (e : Refusal). Err e) p.2

pub given_refused : {A : Type 0} {t : Test} {q : Refusal} {r : Answer A} → t ≡ Err q → IsErrAnd r (λ e. e ≡ q) → (a : Answer A) → r ≡ given t a Err
given_refused e h a = handed_on h ∙ sym (given_failed e a _)

pub refusing_refused : {t u : Test} {q : Refusal} → t ≡ Err q → IsErrAnd u (λ e. e ≡ q) → (r : Refusal) (fails : Bool) → u ≡ (t refusing r when fails)
unfolding ◌refusing◌when◌
refusing_refused e h r fails = rw e (handed_on h)

pub refusing_next : {t u : Test} (r : Refusal) (fails : Bool) → t ≡ all_passed → u ≡ (all_passed refusing r when fails) → u ≡ (t refusing r when fails)
refusing_next r fails e h = rw e h

-- ---- tests 1 and 3 to 8
pub record Shape (v : List Float) : Type 0 where
  pub even : eqb (length v % 2) 1 ≡ false
  pub enough : ltb (count v) 3 ≡ false
  pub few : ltb 4096 (count v) ≡ false
  pub all_finite : not_finite v ≡ false
  pub all_in_field : outside_field v ≡ false
  pub apart : equal_neighbours v ≡ false
  pub nonzero : zero_area v ≡ false

count_passed : (v : List Float) → count_tested v ≡ all_passed → (eqb (length v % 2) 1 ≡ false) × (ltb (count v) 3 ≡ false) × (ltb 4096 (count v) ≡ false)
unfolding count_tested
count_passed v e =
    let t1 = all_passed refusing OddCount when eqb (length v % 2) 1 in
    let t3 = t1 refusing TooFew when ltb (count v) 3 in
    let e4 = refusing_passed t3 TooMany (ltb 4096 (count v)) e in
    let e3 = refusing_passed t1 TooFew (ltb (count v) 3) e4.0 in
    ((refusing_passed all_passed OddCount (eqb (length v % 2) 1) e3.0).1, e3.1, e4.1)

values_passed : (v : List Float) → values_tested v ≡ all_passed → (not_finite v ≡ false) × (outside_field v ≡ false) × (equal_neighbours v ≡ false) × (zero_area v ≡ false)
unfolding values_tested
values_passed v e =
    let t5 = all_passed refusing NotFinite when not_finite v in
    let t6 = t5 refusing OutsideField when outside_field v in
    let t7 = t6 refusing EqualNeighbours when equal_neighbours v in
    let e8 = refusing_passed t7 ZeroArea (zero_area v) e in
    let e7 = refusing_passed t6 EqualNeighbours (equal_neighbours v) e8.0 in
    let e6 = refusing_passed t5 OutsideField (outside_field v) e7.0 in
    ((refusing_passed all_passed NotFinite (not_finite v) e6.0).1, e6.1, e7.1, e8.1)

pub shape : (v : List Float) → shape_tested v ≡ all_passed → Shape v
unfolding shape_tested
shape v e =
    let p = both_passed (count_tested v) (values_tested v) e in
    let c = count_passed v p.0 in
    let n = values_passed v p.1 in
    record { even = c.0; enough = c.1; few = c.2; all_finite = n.0; all_in_field = n.1; apart = n.2; nonzero = n.3 }

-- its size
pub passed_size : (v : List Float) → shape_tested v ≡ all_passed → count v ≤ 4096
passed_size v e = ltb-false 4096 (count v) (shape v e).few

pub tested : {v : List Float} → Shape v → shape_tested v ≡ all_passed
unfolding shape_tested
tested s = rw (s.even, s.enough, s.few, s.all_finite, s.all_in_field, s.apart, s.nonzero)

-- by the size, of numbers that are not odd in count
pub sized : (v : List Float) → eqb (length v % 2) 1 ≡ false → shape_tested v ≡ given (size_tested (count v)) (values_tested v) Err
unfolding shape_tested count_tested size_tested
sized v e = rw e

-- ---- and test 9
pub outline_shape_passed : (v : List Float) → outline_tested v ≡ all_passed → shape_tested v ≡ all_passed
unfolding outline_tested
outline_shape_passed v e = (refusing_passed (shape_tested v) NegativeArea (negative_area v) e).0

-- an accepted outline has vertices, all in the field
pub accepted_field : (v : List Float) → outline_tested v ≡ all_passed → (outside_field v ≡ false) × (0 < count v)
accepted_field v e =
    let s = shape v (outline_shape_passed v e) in
    let three = ltb-false (count v) 3 s.enough in
    (s.all_in_field, omega arith)
