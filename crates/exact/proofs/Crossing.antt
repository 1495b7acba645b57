-- Where an edge crosses a point's height, in whole numbers: why two roundings do not carry the crossing past a point of the grid. Assumes nothing.
use mathlib.Core.Path.{◌≡◌, ap, ap₂, subst}
use mathlib.Core.Logic.{⊎_elim}
use mathlib.Core.List.{List, [], ◌∷◌}
use Prim.Native.Nat.{◌^◌}
use native.Mathlib.Omega.{arith}
use lib.IntN.{ℤ, pos, ◌+ℤ◌, ◌-ℤ◌, ◌*ℤ◌}
use lib.Signed.{lt_z}
use Rattle.algebra.proofs.Quote.{quote, ring}
use Rattle.algebra.specs.Order.{◌≦◌, ◌≺◌, Within, ≤ℤ-or-<ℤ, ≤ℤ-antisym, <ℤ→≤ℤ, mul_lt, mul_le, abs_le, within_le, within_add}
use Rattle.algebra.proofs.Lin.{le, lt, eq, le_from, lt_from, eq_from, false_from}
use Rattle.algebra.proofs.Mono.{mul_mono, within_mul, within_cancel}
use Rattle.number.specs.Rounding.{Rounded}
use Rattle.number.proofs.RoundingLaws.{rounded_relative, rounded_size}
use Rattle.number.proofs.Compare.{same_bool}

-- ---- comparisons
same_lt : {x y z w : ℤ} → (x ≺ y → z ≺ w) → (z ≺ w → x ≺ y) → lt_z x y ≡ lt_z z w
same_lt {x} {y} {z} {w} f g = same_bool (lt_z x y) (lt_z z w) (λ t. (f (record { lt = t })).lt) (λ t. (g (record { lt = t })).lt)

-- the difference multiplied by c
pub lt_scaled : (c x y x' y' : ℤ) → pos 0 ≺ c → y' -ℤ x' ≡ (y -ℤ x) *ℤ c → lt_z x' y' ≡ lt_z x y
lt_scaled c x y x' y' C e =
    let ρ = c ∷ x ∷ y ∷ x' ∷ y' ∷ [] in
    same_lt
    (λ (h : x' ≺ y'). ⊎_elim (λ (l : y ≦ x). absurd (false_from ρ (lt h ∷ eq e ∷ le (mul_le (<ℤ→≤ℤ C) l) ∷ []) (search quote depth 30) (omega arith))) (λ l. l) (≤ℤ-or-<ℤ y x))
    (λ (h : x ≺ y). lt_from ρ (eq e ∷ lt (mul_lt C h) ∷ []) (search quote depth 30) (omega arith))

-- y is less than s away from v * s: then it compares with w * s, for another w, as v does with w
pub lt_beside : (v w s y : ℤ) → pos 0 ≺ s → Within (y -ℤ v *ℤ s) (s -ℤ pos 1) → (v ≡ w → ⊥) → lt_z (w *ℤ s) y ≡ lt_z w v
lt_beside v w s y S near other =
    let ρ = v ∷ w ∷ s ∷ y ∷ [] in
    same_lt
    (λ (h : w *ℤ s ≺ y). ⊎_elim
    (λ (l : v ≦ w). ⊎_elim (λ (m : w ≦ v). absurd (other (≤ℤ-antisym l m)))
    (λ (m : v ≺ w). absurd (false_from ρ (lt h ∷ le near.high ∷ le (mul_le (<ℤ→≤ℤ S) (next m)) ∷ []) (search quote depth 30) (omega arith))) (≤ℤ-or-<ℤ w v))
    (λ l. l) (≤ℤ-or-<ℤ v w))
    (λ (h : w ≺ v). lt_from ρ (le near.low ∷ le (mul_le (<ℤ→≤ℤ S) (next h)) ∷ []) (search quote depth 30) (omega arith))
  where
    next : {x y : ℤ} → x ≺ y → x +ℤ pos 1 ≦ y
    next {x} {y} h = le_from (x ∷ y ∷ []) (lt h ∷ []) (search quote depth 30) (omega arith)

-- ---- the crossing is at x = n / d + b, where d is i * c, c is above 0, and i is 1 or -1
module _ (n d b i c x : ℤ) (d_is : d ≡ i *ℤ c) (i-is : i *ℤ i ≡ pos 1) where
  abbrev σ : List ℤ
  σ = n ∷ d ∷ b ∷ i ∷ c ∷ x ∷ []

  -- times d * d, or times c * c
  pub denominator_cleared : n *ℤ d -ℤ (x -ℤ b) *ℤ (d *ℤ d) ≡ (i *ℤ n +ℤ b *ℤ c -ℤ x *ℤ c) *ℤ c
  denominator_cleared = eq_from σ (eq (ap (λ (u : ℤ). n *ℤ u) d_is) ∷ eq (ap₂ (λ (u v : ℤ). (x -ℤ b) *ℤ (u *ℤ v)) d_is d_is) ∷ eq (ap (λ (u : ℤ). u *ℤ (c *ℤ c *ℤ (x -ℤ b))) i-is) ∷ []) (search quote depth 30) (omega arith)

  pub at_crossing : i *ℤ n +ℤ b *ℤ c ≡ x *ℤ c → n ≡ (x -ℤ b) *ℤ d
  at_crossing e = eq_from σ (eq (ap (λ (u : ℤ). i *ℤ u) e) ∷ eq (ap (λ (u : ℤ). u *ℤ n) i-is) ∷ eq (ap (λ (u : ℤ). (x -ℤ b) *ℤ u) d_is) ∷ []) (search quote depth 30) (omega arith)

-- ---- a step is s units of 2 ^ -1074, and R is n / c steps, rounded. X is R and b steps, rounded
module _ {s n c b R : ℤ} (S : pos (2 ^ 52) ≦ s) (C : pos 0 ≺ c) (c-in : c ≦ pos (2 ^ 21)) (n_in : Within n (pos (2 ^ 21) *ℤ c)) (b_in : Within b (pos (2 ^ 20))) (first : Rounded R (n *ℤ s) c) where
  abbrev ρ : List ℤ
  ρ = s ∷ n ∷ c ∷ b ∷ R ∷ []

  s0 : pos 0 ≦ s
  s0 = le_from ρ (le S ∷ []) (search quote depth 30) (omega arith)

  quotient_in : Within (n *ℤ s) (pos (2 ^ 21) *ℤ s *ℤ c)
  quotient_in = within_le (within_mul s s0 n_in) (le_from ρ [] (search quote depth 30) (omega arith))

  pub rounded_in : Within R (pos (2 ^ 22) *ℤ s +ℤ pos 1)
  rounded_in = within_le (rounded_size {B = pos (2 ^ 21) *ℤ s} C (le_from ρ (le s0 ∷ []) (search quote depth 30) (omega arith)) first quotient_in) (le_from ρ [] (search quote depth 30) (omega arith))

  sum_in : Within (R +ℤ b *ℤ s) (pos (2 ^ 23) *ℤ s)
  sum_in = within_le (within_add rounded_in (within_mul s s0 b_in)) (le_from ρ (le S ∷ []) (search quote depth 30) (omega arith))

  -- times c, X is less than a step away from n + b * c steps
  pub crossing_near : {X : ℤ} → Rounded X (R +ℤ b *ℤ s) (pos 1) → Within (X *ℤ c -ℤ (n +ℤ b *ℤ c) *ℤ s) (s -ℤ pos 1)
  crossing_near {X} second =
      let e = rounded_relative C first (abs_le quotient_in) in
      let f = rounded_relative (record { lt = tt }) second (abs_le sum_in) in
      within_cancel (pos (2 ^ 53)) (record { lt = tt })
      (within_le
      (subst (λ (x : ℤ). Within x ((pos (2 ^ 23) *ℤ s +ℤ pos (2 ^ 52) *ℤ pos 1) *ℤ c +ℤ (pos (2 ^ 21) *ℤ s *ℤ c +ℤ pos (2 ^ 52) *ℤ c))) (ring (X ∷ ρ) (search quote depth 30) tt) (within_add (within_mul c (<ℤ→≤ℤ C) f) e))
      (le_from ρ (le S ∷ le (mul_mono s s0 c-in) ∷ le (mul_mono c (<ℤ→≤ℤ C) S) ∷ []) (search quote depth 30) (omega arith)))
