-- Points at the height of an edge, and points on its line: one in the box of its ends is on the edge. Assumes nothing.
use mathlib.Core.Path.{◌≡◌, refl, ap₂}
use mathlib.Core.List.{[], ◌∷◌}
use mathlib.Core.Bool.{Bool, true, false, ◌&&◌}
use native.Mathlib.Omega.{arith}
use lib.Dec.{T}
use lib.IntN.{ℤ, pos, ◌-ℤ◌, ◌*ℤ◌}
use lib.Signed.{lt_z}
use lib.Ieee.{unlike}
use lib.Ieee.Fits.{and_i}
use Rattle.algebra.proofs.Quote.{quote}
use Rattle.algebra.specs.Order.{◌≦◌, ◌≺◌, <ℤ→≤ℤ, mul_le, mul_pos, sq_nonneg}
use Rattle.algebra.proofs.Lin.{le, lt, eq, le_from, lt_from}
use Rattle.algebra.proofs.Mono.{mul_cancel}
use Rattle.number.specs.Exact.{eq_z}
use Rattle.number.proofs.Compare.{→eq_z, is_lt, not_lt}
use Rattle.grid.specs.Whole.{PointZ, EdgeZ, cross_z, between_z, on_edge_z}
use Rattle.grid.proofs.Between.{product_between}

-- q lies between a and b, ends included, and those differ
pub record Across (a b q : ℤ) : Type 0 where
  pub product : (q -ℤ a) *ℤ (q -ℤ b) ≦ pos 0
  pub square : pos 0 ≺ (a -ℤ b) *ℤ (a -ℤ b)

-- exactly one end is above q
pub across : (a b q : ℤ) → T (unlike (lt_z q b) (lt_z q a)) → Across a b q
across a b q t = go (lt_z q b) refl (lt_z q a) refl t
  where
    from : {a b : ℤ} → b ≦ q → q ≺ a → Across a b q
    from {a} {b} h k = record {
      product = le_from (a ∷ b ∷ q ∷ []) (le (mul_le h (<ℤ→≤ℤ k)) ∷ []) (search quote depth 30) (omega arith);
      square = let d : pos 0 ≺ a -ℤ b = lt_from (a ∷ b ∷ q ∷ []) (le h ∷ lt k ∷ []) (search quote depth 30) (omega arith) in mul_pos d d;
    }

    swap : {a b : ℤ} → Across a b q → Across b a q
    swap {a} {b} h = record {
      product = le_from (a ∷ b ∷ q ∷ []) (le h.product ∷ []) (search quote depth 30) (omega arith);
      square = lt_from (a ∷ b ∷ []) (lt h.square ∷ []) (search quote depth 30) (omega arith);
    }

    go : (s : Bool) → lt_z q b ≡ s → (t : Bool) → lt_z q a ≡ t → T (unlike s t) → Across a b q
    go false e true f t = from (not_lt e) (is_lt f)
    go true e false f t = swap (from (not_lt f) (is_lt e))
    go false e false f t = absurd t
    go true e true f t = absurd t

-- u and v are w / d times r and s: their product is not above 0 where that of r and s is not
pub product_scaled : (u v d w r s : ℤ) → pos 0 ≺ d *ℤ d → u *ℤ d ≡ w *ℤ r → v *ℤ d ≡ w *ℤ s → r *ℤ s ≦ pos 0 → u *ℤ v ≦ pos 0
product_scaled u v d w r s d0 f g h = mul_cancel (d *ℤ d) (u *ℤ v) (pos 0) d0 (le_from (u ∷ v ∷ d ∷ w ∷ r ∷ s ∷ []) (eq (ap₂ ◌*ℤ◌ f g) ∷ le (mul_le (sq_nonneg w) h) ∷ []) (search quote depth 30) (omega arith))

-- a point on the line of an edge, and in the box of its ends, is on the edge
pub on_edge_lem : (e : EdgeZ) (p : PointZ) → cross_z e p ≡ pos 0 → (p.x -ℤ e.a.x) *ℤ (p.x -ℤ e.b.x) ≦ pos 0 → (p.y -ℤ e.a.y) *ℤ (p.y -ℤ e.b.y) ≦ pos 0 → T (on_edge_z p e)
unfolding on_edge_z
on_edge_lem e p flat h k =
    and_i (eq_z (cross_z e p) (pos 0)) (between_z e.a.x e.b.x p.x && between_z e.a.y e.b.y p.y) (→eq_z flat)
    (and_i (between_z e.a.x e.b.x p.x) (between_z e.a.y e.b.y p.y) (product_between e.a.x e.b.x p.x h) (product_between e.a.y e.b.y p.y k))
