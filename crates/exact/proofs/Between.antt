-- Points between two ends, as `locate` tests it on floats. Assumes nothing.
use mathlib.Core.Path.{◌≡◌, refl, ap₂, ◌∙◌, subst}
use mathlib.Core.Logic.{⊎_elim}
use mathlib.Core.Bool.{Bool, true, false, ◌&&◌, ◌||◌, cond, or_comm}
use Prim.Native.Nat.{ℕ}
use lib.Dec.{T}
use lib.IntN.{ℤ}
use lib.Signed.{lt_z, le_z}
use lib.Ieee.{Float}
use lib.Ieee.Fits.{and_l, and_r, and_i}
use Rattle.algebra.specs.Order.{◌≦◌, ◌≺◌, ≤ℤ-or-<ℤ, ≤ℤ-antisym, ≤ℤ-trans, <ℤ→≤ℤ}
use Rattle.number.specs.Exact.{Is}
use Rattle.number.proofs.Basics.{or_l, or_split}
use Rattle.number.proofs.Compare.{same_bool, lt_true, lt_false, not_lt, lt_is, le_is}
use Rattle.geometry.specs.Polygon.{between_ends}
use Rattle.grid.specs.Whole.{between_z}

-- from the lesser end to the greater
upward : (x y q : ℤ) → x ≦ y → (le_z x q && le_z q y) ≡ between_z x y q
unfolding between_z
upward x y q l =
    same_bool (le_z x q && le_z q y) ((le_z x q && le_z q y) || (le_z y q && le_z q x)) (or_l (le_z x q && le_z q y) (le_z y q && le_z q x))
    (λ t. ⊎_elim (λ u. u) (λ u. level (record { le = and_l (le_z y q) (le_z q x) u }) (record { le = and_r (le_z y q) (le_z q x) u })) (or_split (le_z x q && le_z q y) (le_z y q && le_z q x) t))
  where
    level : y ≦ q → q ≦ x → T (le_z x q && le_z q y)
    level h k = and_i (le_z x q) (le_z q y) (≤ℤ-trans l h).le (≤ℤ-trans k l).le

module _ {k : ℕ} {u v w : Float} {x y q : ℤ} (h : Is k u x) (g : Is k v y) (f : Is k w q) where
  rising : x ≦ y → between_ends u v w ≡ between_z x y q
  rising l = rw (lt_is g h, lt_is h g, lt_false l) (ap₂ ◌&&◌ (le_is h f) (le_is f (go (lt_z x y) refl)) ∙ upward x y q l)
    where
      go : (b : Bool) → lt_z x y ≡ b → Is k (cond b v u) y
      go true e = g
      go false e = subst (Is k u) (≤ℤ-antisym l (not_lt e)) h

  falling : y ≺ x → between_ends u v w ≡ between_z x y q
  unfolding between_z
  falling l = rw (lt_is g h, lt_is h g, lt_true l, lt_false (<ℤ→≤ℤ l)) (ap₂ ◌&&◌ (le_is g f) (le_is f h) ∙ upward y x q (<ℤ→≤ℤ l) ∙ or_comm (le_z y q && le_z q x) (le_z x q && le_z q y))

  pub between_is : between_ends u v w ≡ between_z x y q
  between_is = ⊎_elim rising falling (≤ℤ-or-<ℤ x y)
