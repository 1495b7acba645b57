-- What the tests of an outline hand over, and what it tells. Assumes nothing.
use mathlib.Core.Path.{◌≡◌, refl, sym, ap, ◌∙◌}
use mathlib.Core.Bool.{true, false}
use mathlib.Core.List.{List}
use Prim.Native.Nat.{ℕ}
use native.Mathlib.Omega.{arith}
use lib.Ieee.{Float, lt}
use Rattle.number.specs.Exact.{zeroᶠ}
use Rattle.boundary.specs.Outline.{edges}
use Rattle.accept.specs.declared.Refusal.{Refusal}
use Rattle.accept.specs.declared.Refusal.TheVariants.{NegativeArea}
use Rattle.std.proofs.Common.{Ok, Err}
use Rattle.accept.specs.Area.{area_of}
use Rattle.accept.specs.Refusals.{Answer, Test, all_passed, ◌refusing◌when◌, given, negative_area}
use Rattle.accept.specs.Verdicts.{test_of}
use Rattle.accept.proofs.TestLaws.{given_map, given_itself}

pub test_of_verdict : (t : Test) (a : Float) → test_of (given t (Ok a) Err) ≡ t
test_of_verdict t a = given_map test_of t (Ok a) Err ∙ given_itself t

-- an area was handed over: the tests are passed, and it is the outline's
pub area_passed : (t : Test) (a b : Float) → given t (Ok a) Err ≡ Ok b → (t ≡ all_passed) × (a ≡ b)
unfolding given
area_passed (Ok _) a b e = (refl, cc)
area_passed (Err r) a b e = let z : ◌≡◌ {A = ℕ} 0 1 = cc in absurd (omega arith)

-- a refusal was
pub turned_failed : (t : Test) (a : Float) (r : Refusal) → given t (Ok a) Err ≡ Err r → t ≡ Err r
turned_failed t a r e = sym (test_of_verdict t a) ∙ ap test_of e

-- ---- test 9, of the area that was handed over
module _ (v : List Float) (s : Test) where
  abbrev handed : Test → Answer Float
  handed t = given t (Ok (area_of (edges v))) Err

  pub sign_negative : (a : Float) → handed s ≡ Ok a → lt a zeroᶠ ≡ true → Err NegativeArea ≡ handed (s refusing NegativeArea when negative_area v)
  unfolding given ◌refusing◌when◌
  sign_negative a e n = let p = area_passed s (area_of (edges v)) a e in rw (p.0, p.1, n)

  pub sign_kept : (a : Float) → handed s ≡ Ok a → lt a zeroᶠ ≡ false → Ok a ≡ handed (s refusing NegativeArea when negative_area v)
  unfolding given ◌refusing◌when◌
  sign_kept a e n = let p = area_passed s (area_of (edges v)) a e in rw (p.0, p.1, n)

  pub sign_turned : (r : Refusal) → handed s ≡ Err r → Err r ≡ handed (s refusing NegativeArea when negative_area v)
  unfolding given ◌refusing◌when◌
  sign_turned r e = rw (turned_failed s (area_of (edges v)) r e)
