-- Points between two ends, as a product of whole numbers. Assumes nothing.
use mathlib.Core.Path.{◌≡◌, refl, sym, subst}
use mathlib.Core.Logic.{⊎_elim}
use mathlib.Core.List.{[], ◌∷◌}
use mathlib.Core.Bool.{◌&&◌, ◌||◌}
use Prim.Native.Nat.{◌≤◌}
use native.Mathlib.Omega.{arith}
use lib.Dec.{T}
use lib.IntN.{ℤ, pos, negsuc, nat_abs, ◌-ℤ◌, ◌*ℤ◌}
use lib.Signed.{le_z, clash_ℤ}
use lib.Ieee.Fits.{and_i}
use Rattle.algebra.proofs.Quote.{quote}
use Rattle.algebra.specs.Order.{◌≦◌, ◌≺◌, ≤ℤ-or-<ℤ, <ℤ→≤ℤ, mul_lt, sq_nonneg, absℤ, within_of_sq, le_of_within, pos_nonneg}
use Rattle.algebra.proofs.Lin as L
use Rattle.algebra.proofs.Lin.{le_from, false_from}
use Rattle.number.proofs.Basics.{or_l, or_r}
use Rattle.grid.specs.Whole.{between_z}

pub product_between : (a b q : ℤ) → (q -ℤ a) *ℤ (q -ℤ b) ≦ pos 0 → T (between_z a b q)
unfolding between_z
product_between a b q h = ⊎_elim
    (λ (l : a ≦ q). ⊎_elim (λ (m : q ≦ b). or_l (le_z a q && le_z q b) (le_z b q && le_z q a) (and_i (le_z a q) (le_z q b) l.le m.le))
    (λ (m : b ≺ q). ⊎_elim (λ (n : q ≦ a). falls (<ℤ→≤ℤ m) n) (λ (n : a ≺ q). clash_ℤ (mul_lt n m) h) (≤ℤ-or-<ℤ q a)) (≤ℤ-or-<ℤ q b))
    (λ (l : q ≺ a). ⊎_elim (λ (m : b ≦ q). falls m (<ℤ→≤ℤ l)) (λ (m : q ≺ b). absurd (false_from (a ∷ b ∷ q ∷ []) (L.le h ∷ L.lt (mul_lt l m) ∷ []) (search quote depth 30) (omega arith))) (≤ℤ-or-<ℤ b q))
    (≤ℤ-or-<ℤ a q)
  where
    falls : b ≦ q → q ≦ a → T ((le_z a q && le_z q b) || (le_z b q && le_z q a))
    falls m n = or_r (le_z a q && le_z q b) (le_z b q && le_z q a) (and_i (le_z b q) (le_z q a) m.le n.le)

-- it is no farther from an end than the other end is
pub product_nearer : (a b q : ℤ) → (q -ℤ a) *ℤ (q -ℤ b) ≦ pos 0 → nat_abs (q -ℤ b) ≤ nat_abs (a -ℤ b)
product_nearer a b q h =
    le_of_within (within_of_sq (q -ℤ b) {d = absℤ (a -ℤ b)} (pos_nonneg (nat_abs (a -ℤ b))) (subst (λ (s : ℤ). (q -ℤ b) *ℤ (q -ℤ b) ≦ s) (sym (square (a -ℤ b)))
    (le_from (a ∷ b ∷ q ∷ []) (L.le h ∷ L.le (sq_nonneg (q -ℤ a)) ∷ []) (search quote depth 30) (omega arith))))
  where
    square : (x : ℤ) → absℤ x *ℤ absℤ x ≡ x *ℤ x
    square (pos n) = refl
    square (negsuc n) = refl
