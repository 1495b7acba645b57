-- Signed numbers of four bytes: how large they are, as numbers of 32 and 64 bits, and where they stand. Assumes nothing.
use mathlib.Core.Path.{◌≡◌, refl, sym, ap, ◌∙◌}
use mathlib.Core.Bool.{Bool, true, false, not, ◌&&◌, ◌||◌, cond, or-false, and-true}
use mathlib.Core.List.{List, [], ◌∷◌}
use Prim.Native.Nat.{ℕ, zero, suc, ◌+◌, ◌*◌, ◌<◌, ◌≤◌}
use native.Mathlib.Omega.{arith}
use borrow.Author.Tests.{lt-ltb, le-ltb, ltb-true, ltb-false}
use lib.Dec.{eqb, ltb}
use lib.IntN.{ℤ, pos, negsuc, ◌-ℤ◌, nat_abs}
use mir.Syntax.{w32, w64}
use mir.Val.{SFits, to_z, of_z}
use mir.ValLaws.{to_z-of_z}
use lib.ListN.{length, take, drop, get_or, length-drop}
use lib.Seq.{get_or-drop}
use lib.Signed.{lt_z}
use Rattle.std.proofs.Math.Facts.{sfits_to_z}
use Rattle.lists.specs.Lists.{run}
use Rattle.lists.proofs.RunLaws.{run_later, run_same}
use Rattle.stream.specs.Bytes.{signed_quad, steps_in, step_at}
use Rattle.stream.specs.Records.{far_step, SameStep, same_bytes, other_unit}

-- ---- as numbers of 64 bits
small_fits : (z : ℤ) → nat_abs z ≤ 4294967296 → SFits w64 z
small_fits (pos n) h = record { sfits = omega (arith, h) }
small_fits (negsuc n) h = record { sfits = omega (arith, h) }

-- handed over as one it is the same
pub small_same : (z : ℤ) → nat_abs z ≤ 4294967296 → to_z w64 (of_z w64 z) ≡ z
small_same z h = to_z-of_z w64 z (small_fits z h)

-- ---- as numbers of 32 bits
same_as : {z r : ℤ} → r ≡ z → nat_abs z ≤ 4294967296 → SameStep z r
same_as e h = record { far = ap far_step e; near = λ f. e; small = rw e h }

quad_is : (n : ℕ) → n < 4294967296 → to_z w32 n ≡ signed_quad n
unfolding signed_quad
quad_is n l = rw (lt-ltb n 4294967296 l)

quad_small : (n : ℕ) → n < 4294967296 → nat_abs (signed_quad n) ≤ 4294967296
unfolding signed_quad
quad_small n l = go (ltb n 2147483648) refl
  where
    go : (b : Bool) → ltb n 2147483648 ≡ b → nat_abs (cond b (pos n) (pos n -ℤ pos 4294967296)) ≤ 4294967296
    go true e = omega (arith, l)
    go false e = rw (lt-ltb n 4294967296 l) (omega (arith, l))

-- the bits n, read as a number z of 32 bits that is handed over twice
pub step_stands : (n : ℕ) (z r : ℤ) → n < 4294967296 → z ≡ to_z w32 n → r ≡ to_z w32 (of_z w32 z)
    → SameStep (signed_quad n) (to_z w64 (of_z w64 r))
step_stands n z r l e f =
    let t : z ≡ signed_quad n = e ∙ quad_is n l in
    let u : r ≡ signed_quad n = f ∙ ap (λ x. to_z w32 (of_z w32 x)) e ∙ to_z-of_z w32 (to_z w32 n) (sfits_to_z (record { fits = l })) ∙ quad_is n l in
    let m = quad_small n l in
    same_as (small_same r (rw u m) ∙ u) m

-- ---- where they stand
byte_place : (s : List ℕ) (at i j : ℕ) → j ≡ at + i → get_or (drop at s) i 0 ≡ get_or s j 0
byte_place s at i j e = get_or-drop at s i 0 ∙ ap (λ (k : ℕ). get_or s k 0) (sym e)

step_place : (s : List ℕ) (from k : ℕ) → step_at (drop from s) 0 k ≡ step_at s from k
step_place s from k =
    rw (
      byte_place s from (0 + 4 * k) (from + 4 * k) (omega arith),
      byte_place s from (0 + 4 * k + 1) (from + 4 * k + 1) (omega arith),
      byte_place s from (0 + 4 * k + 2) (from + 4 * k + 2) (omega arith),
      byte_place s from (0 + 4 * k + 3) (from + 4 * k + 3) (omega arith),
    )

four_later : (a b c d : ℕ) (x : List ℕ) (j : ℕ) → step_at (a ∷ b ∷ c ∷ d ∷ x) 0 (suc j) ≡ step_at x 0 j
four_later a b c d x j =
    let e : 0 + 4 * suc j ≡ suc (suc (suc (suc (0 + 4 * j)))) = omega arith in
    let e₁ : 0 + 4 * suc j + 1 ≡ suc (suc (suc (suc (0 + 4 * j + 1)))) = omega arith in
    let e₂ : 0 + 4 * suc j + 2 ≡ suc (suc (suc (suc (0 + 4 * j + 2)))) = omega arith in
    let e₃ : 0 + 4 * suc j + 3 ≡ suc (suc (suc (suc (0 + 4 * j + 3)))) = omega arith in
    rw (e₃, e₂, e₁, e)

steps_run : (n : ℕ) (x : List ℕ) → 4 * n ≤ length x → steps_in (take (4 * n) x) ≡ run (step_at x 0) 0 n
unfolding steps_in run
steps_run zero x h = refl
steps_run (suc n) [] h = absurd (omega (arith, h))
steps_run (suc n) (a ∷ []) h = absurd (omega (arith, h))
steps_run (suc n) (a ∷ b ∷ []) h = absurd (omega (arith, h))
steps_run (suc n) (a ∷ b ∷ c ∷ []) h = absurd (omega (arith, h))
steps_run (suc n) (a ∷ b ∷ c ∷ d ∷ x) h =
    let e : 4 * suc n ≡ suc (suc (suc (suc (4 * n)))) = omega arith in
    rw (e, steps_run n x (omega (arith, h)), run_later (step_at (a ∷ b ∷ c ∷ d ∷ x) 0) (step_at x 0) 0 n (λ j l. four_later a b c d x j))

-- the signed numbers of n times four bytes from a place on
pub steps_placed : (s : List ℕ) (from n : ℕ) → from + 4 * n ≤ length s → steps_in (take (4 * n) (drop from s)) ≡ run (step_at s from) 0 n
steps_placed s from n h =
    let l = length-drop from s in
    steps_run n (drop from s) (omega arith) ∙ run_same (step_at (drop from s) 0) (step_at s from) 0 n (λ j k. step_place s from j)

-- ---- beyond the reach
pub far_is : (z : ℤ) → (lt_z (pos 1048576) z || lt_z z (negsuc 1048575)) ≡ far_step z
far_is (pos n) = or-false (ltb 1048576 n)
far_is (negsuc n) = go (ltb 1048575 n) refl
  where
    go : (b : Bool) → ltb 1048575 n ≡ b → ltb 1048575 n ≡ ltb 1048576 (suc n)
    go true e = e ∙ sym (lt-ltb 1048576 (suc n) (let l = ltb-true 1048575 n e in omega arith))
    go false e = e ∙ sym (le-ltb 1048576 (suc n) (let l = ltb-false 1048575 n e in omega arith))

-- ---- the unit, byte by byte
abbrev unit_bytes : (ℕ → ℕ) → Bool
unit_bytes b = eqb (b 0) 0x3E && (eqb (b 1) 0x40 && (eqb (b 2) 0 && (eqb (b 3) 0 && (eqb (b 4) 0 && (eqb (b 5) 0 && (eqb (b 6) 0 && eqb (b 7) 0))))))

unit_bytes_lem : (x : List ℕ) → 8 ≤ length x → not (unit_bytes (λ i. get_or x i 0)) ≡ other_unit x
unfolding other_unit same_bytes
unit_bytes_lem (a ∷ b ∷ c ∷ d ∷ e ∷ f ∷ g ∷ h ∷ x) l = rw (and-true (eqb h 0))
unit_bytes_lem [] l = absurd (omega (arith, l))
unit_bytes_lem (a ∷ []) l = absurd (omega (arith, l))
unit_bytes_lem (a ∷ b ∷ []) l = absurd (omega (arith, l))
unit_bytes_lem (a ∷ b ∷ c ∷ []) l = absurd (omega (arith, l))
unit_bytes_lem (a ∷ b ∷ c ∷ d ∷ []) l = absurd (omega (arith, l))
unit_bytes_lem (a ∷ b ∷ c ∷ d ∷ e ∷ []) l = absurd (omega (arith, l))
unit_bytes_lem (a ∷ b ∷ c ∷ d ∷ e ∷ f ∷ []) l = absurd (omega (arith, l))
unit_bytes_lem (a ∷ b ∷ c ∷ d ∷ e ∷ f ∷ g ∷ []) l = absurd (omega (arith, l))
