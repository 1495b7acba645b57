-- On the grid of 2 ^ -10, a line that is cut has a part inside and one outside: the middle of each part is on the side of its end. Assumes nothing.
use mathlib.Core.Path.{◌≡◌, refl, sym, ap, ◌∙◌, subst}
use mathlib.Core.Logic.{◌⊎◌, inl, inr, ⊎_elim}
use mathlib.Core.Bool.{Bool, true, false, not, ◌&&◌, cond, true≢false}
use mathlib.Core.List.{List, [], ◌∷◌, flat_map}
use Prim.Native.Nat.{ℕ, zero, suc, ◌*◌, ◌^◌, ◌≤◌}
use native.Mathlib.Nat.{le_trans, le_refl, mul-le-mul, mul-le-mul_right, add-le-add, zero-lt-suc}
use native.Mathlib.Omega.{arith}
use lib.Dec.{T, lit≤, lit<}
use lib.IntN.{ℤ, pos, negsuc, neg_ℤ, nat_abs, ◌+ℤ◌, ◌-ℤ◌, ◌*ℤ◌}
use lib.Ieee.{Float, binary64, round, add, sub, mul, div, lt, le, ne, eq}
use lib.Ieee.Bits.{is_true}
use Rattle.algebra.proofs.Quote.{quote}
use Rattle.algebra.proofs.Lin as L
use Rattle.algebra.proofs.Lin.{le_from, lt_from, false_from}
use Rattle.number.proofs.ChoiceLaws.{never_true}
use Rattle.algebra.specs.Order.{◌≦◌, ◌≺◌, Within, ≤ℤ-or-<ℤ, <ℤ→≤ℤ, pos_nonneg, pos_le, pos_lt, mul_pos, nat_abs_add, nat_abs_neg, nat_abs_mul, within_nat_abs, le_of_within}
use Rattle.algebra.proofs.Mono.{mul_mono, within_mul, within_product}
use Rattle.algebra.specs.Sign.{sign}
use Rattle.algebra.proofs.SignedLaws.{signed_of_sign}
use Rattle.number.specs.Exact.{Is, Sized, zeroᶠ, one}
use Rattle.number.specs.Rounding.{Rounds, Result}
use Rattle.number.proofs.Operations.{equation→is, rescale, zero_is, add_rounds, mul_rounds, div_rounds}
use Rattle.number.proofs.RoundingLaws.{rounds_exact, rounds_order, rounded_within, rounds_result, result_cancel}
use Rattle.number.proofs.ExactLaws.{sub_is, add_result, div_result}
use Rattle.number.proofs.OrderLaws.{is_below, below_not_le, below_le, through_below, below_through}
use Rattle.number.proofs.Compare.{lt_is, lt_true, →eq, eq→}
use Rattle.number.proofs.Values.{rounded_nat_abs}
use Rattle.lists.specs.Lists.{fold, any, Every}
use Rattle.lists.proofs.FoldLaws.{any_append, or_none}
use Rattle.boundary.specs.declared.Point.{Point}
use Rattle.boundary.specs.declared.Edge.{Edge}
use Rattle.boundary.specs.Line.{along_of, half}
use Rattle.boundary.specs.Boxes.{PointOf, EdgeOf}
use Rattle.clip.specs.declared.HalfPlane.{HalfPlane}
use Rattle.std.proofs.Common.{Some, None}
use Rattle.std.specs.Option.{is_some}
use Rattle.clip.specs.declared.Marks.{Marks}
use Rattle.clip.specs.Clip.{coord_of, crossing, crosses, Part, parts_of, parts, KeptWhole}
use Rattle.clip.specs.Passes.{coord_inside, cut_at, mark_at, uncut_of, marks_between, marks_of}
use Rattle.clip.proofs.CutLaws.{before_start_lem, past_end_lem}
use Rattle.clip.proofs.OneSideLaws.{half_result}
use Rattle.clip.proofs.PassLaws.{parts_marks}
use Rattle.clip.proofs.KeepsAllLaws.{uncut_inside_whole}

-- ---- whole numbers: S is the error of one rounding, 2 ^ 1030 units of 2 ^ -1074
step : (x y : ℤ) → x ≺ y → x +ℤ pos 1 ≦ y
step x y l = le_from (x ∷ y ∷ []) (L.lt l ∷ []) (search quote depth 30) (omega arith)

-- where the bound is met: u · (b - a) is v - a
module _ (S : ℤ) (S0 : pos 0 ≦ S) where
  meets_ahead : (U b z : ℤ) → b ≦ pos (2 ^ 31) → Within (pos 2 *ℤ (U *ℤ b -ℤ pos 1 *ℤ z *ℤ (pos (2 ^ 44) *ℤ S))) (S *ℤ b)
      → Within (pos 2 *ℤ (U *ℤ b -ℤ z *ℤ (pos (2 ^ 44) *ℤ S))) (pos (2 ^ 31) *ℤ S)
  meets_ahead U b z l w = record {
    low = le_from (S ∷ U ∷ b ∷ z ∷ []) (L.le w.low ∷ L.le (mul_mono S S0 l) ∷ []) (search quote depth 30) (omega arith);
    high = le_from (S ∷ U ∷ b ∷ z ∷ []) (L.le w.high ∷ L.le (mul_mono S S0 l) ∷ []) (search quote depth 30) (omega arith);
  }

  meets_back : (U b z : ℤ) → b ≦ pos (2 ^ 31) → Within (pos 2 *ℤ (U *ℤ b -ℤ negsuc 0 *ℤ z *ℤ (pos (2 ^ 44) *ℤ S))) (S *ℤ b)
      → Within (pos 2 *ℤ (U *ℤ neg_ℤ b -ℤ z *ℤ (pos (2 ^ 44) *ℤ S))) (pos (2 ^ 31) *ℤ S)
  meets_back U b z l w = record {
    low = le_from (S ∷ U ∷ b ∷ z ∷ []) (L.le w.high ∷ L.le (mul_mono S S0 l) ∷ []) (search quote depth 30) (omega arith);
    high = le_from (S ∷ U ∷ b ∷ z ∷ []) (L.le w.low ∷ L.le (mul_mono S S0 l) ∷ []) (search quote depth 30) (omega arith);
  }

  -- the way to a middle: half of u + Z times the way
  way_near : (U W Z H P D z : ℤ) → Within D (pos (2 ^ 31)) → Within (pos 2 *ℤ (U *ℤ D -ℤ z *ℤ (pos (2 ^ 44) *ℤ S))) (pos (2 ^ 31) *ℤ S)
      → Within (pos 2 *ℤ (W *ℤ pos 1 -ℤ (U +ℤ Z))) (S *ℤ pos 1) → Within (pos 2 *ℤ (H *ℤ pos 2 -ℤ W)) (S *ℤ pos 2)
      → Within (pos 2 *ℤ (P *ℤ pos (2 ^ 10) -ℤ H *ℤ D)) (pos (2 ^ 34) *ℤ S)
      → Within (pos (2 ^ 12) *ℤ P -ℤ (pos (2 ^ 45) *ℤ (S *ℤ z) +ℤ pos 2 *ℤ (Z *ℤ D))) (pos (2 ^ 38) *ℤ S)
  way_near U W Z H P D z d h1 h2 h3 h4 =
      let p2 = within_product h2 d in
      let p3 = within_product h3 d in
      record {
        low = le_from (S ∷ U ∷ W ∷ Z ∷ H ∷ P ∷ D ∷ z ∷ []) (L.le S0 ∷ L.le h1.low ∷ L.le p2.low ∷ L.le p3.low ∷ L.le h4.low ∷ []) (search quote depth 30) (omega arith);
        high = le_from (S ∷ U ∷ W ∷ Z ∷ H ∷ P ∷ D ∷ z ∷ []) (L.le S0 ∷ L.le h1.high ∷ L.le p2.high ∷ L.le p3.high ∷ L.le h4.high ∷ []) (search quote depth 30) (omega arith);
      }

  -- the middle of the first part is that of A and C, the middle of the second that of C and B
  first_middle : (A B C P : ℤ) → Within (pos (2 ^ 12) *ℤ P -ℤ (pos (2 ^ 45) *ℤ (S *ℤ (C -ℤ A)) +ℤ pos 2 *ℤ (pos 0 *ℤ (B -ℤ A)))) (pos (2 ^ 38) *ℤ S)
      → Within (pos (2 ^ 12) *ℤ (A *ℤ (pos (2 ^ 34) *ℤ S) +ℤ P) -ℤ pos (2 ^ 45) *ℤ (S *ℤ (C +ℤ A))) (pos (2 ^ 38) *ℤ S)
  first_middle A B C P w = record {
    low = le_from (S ∷ A ∷ B ∷ C ∷ P ∷ []) (L.le w.low ∷ []) (search quote depth 30) (omega arith);
    high = le_from (S ∷ A ∷ B ∷ C ∷ P ∷ []) (L.le w.high ∷ []) (search quote depth 30) (omega arith);
  }

  last_middle : (A B C P : ℤ) → Within (pos (2 ^ 12) *ℤ P -ℤ (pos (2 ^ 45) *ℤ (S *ℤ (C -ℤ A)) +ℤ pos 2 *ℤ (pos (2 ^ 44) *ℤ S *ℤ (B -ℤ A)))) (pos (2 ^ 38) *ℤ S)
      → Within (pos (2 ^ 12) *ℤ (A *ℤ (pos (2 ^ 34) *ℤ S) +ℤ P) -ℤ pos (2 ^ 45) *ℤ (S *ℤ (C +ℤ B))) (pos (2 ^ 38) *ℤ S)
  last_middle A B C P w = record {
    low = le_from (S ∷ A ∷ B ∷ C ∷ P ∷ []) (L.le w.low ∷ []) (search quote depth 30) (omega arith);
    high = le_from (S ∷ A ∷ B ∷ C ∷ P ∷ []) (L.le w.high ∷ []) (search quote depth 30) (omega arith);
  }

  -- it is a quarter of a step or more from C
  below_quarter : (M C X : ℤ) → Within (pos (2 ^ 12) *ℤ M -ℤ pos (2 ^ 45) *ℤ (S *ℤ (C +ℤ X))) (pos (2 ^ 38) *ℤ S) → X ≺ C
      → M *ℤ pos (2 ^ 12) ≦ (pos 4 *ℤ C -ℤ pos 1) *ℤ (pos (2 ^ 44) *ℤ S)
  below_quarter M C X w l = le_from (S ∷ M ∷ C ∷ X ∷ []) (L.le w.high ∷ L.le S0 ∷ L.le (mul_mono S S0 (step X C l)) ∷ []) (search quote depth 30) (omega arith)

  above_quarter : (M C X : ℤ) → Within (pos (2 ^ 12) *ℤ M -ℤ pos (2 ^ 45) *ℤ (S *ℤ (C +ℤ X))) (pos (2 ^ 38) *ℤ S) → C ≺ X
      → (pos 4 *ℤ C +ℤ pos 1) *ℤ (pos (2 ^ 44) *ℤ S) ≦ M *ℤ pos (2 ^ 12)
  above_quarter M C X w l = le_from (S ∷ M ∷ C ∷ X ∷ []) (L.le w.low ∷ L.le S0 ∷ L.le (mul_mono S S0 (step C X l)) ∷ []) (search quote depth 30) (omega arith)

  -- half of u is below 1
  half_below : (U W H : ℤ) → pos 1 ≦ S → U ≺ pos (2 ^ 44) *ℤ S → Within (pos 2 *ℤ (W *ℤ pos 1 -ℤ (U +ℤ pos 0))) (S *ℤ pos 1)
      → Within (pos 2 *ℤ (H *ℤ pos 2 -ℤ W)) (S *ℤ pos 2) → H ≺ pos (2 ^ 44) *ℤ S
  half_below U W H S1 l h2 h3 = lt_from (S ∷ U ∷ W ∷ H ∷ []) (L.le S1 ∷ L.lt l ∷ L.le h2.high ∷ L.le h3.high ∷ []) (search quote depth 30) (omega arith)

-- ---- where a line that is cut meets the bound: its coordinate grows by D, and is z from the bound at its start
record Met (u : Float) (D z : ℤ) : Type 0 where
  U : ℤ
  is : Is 1074 u U
  below : U ≺ pos (2 ^ 1074)
  size : nat_abs U ≤ 2 ^ 1074
  near : Within (pos 2 *ℤ (U *ℤ D -ℤ z *ℤ (pos (2 ^ 44) *ℤ pos (2 ^ 1030)))) (pos (2 ^ 31) *ℤ pos (2 ^ 1030))
  apart : ((pos 0 ≺ z) × (z ≺ D)) ⊎ ((z ≺ pos 0) × (D ≺ z))

inside : {u : Float} {N : ℤ} {b : ℕ} → Rounds u N b → lt zeroᶠ u ≡ true → lt u one ≡ true → (pos 0 ≺ N) × (N ≺ pos b)
inside {u} {N} {b} r h k = (
  ⊎_elim (λ (l : N ≦ pos 0). absurd (true≢false (sym h ∙ before_start_lem r l))) (λ (l : pos 0 ≺ N). l) (≤ℤ-or-<ℤ N (pos 0)),
  ⊎_elim (λ (l : pos b ≦ N). absurd (true≢false (sym k ∙ past_end_lem r l))) (λ (l : N ≺ pos b). l) (≤ℤ-or-<ℤ (pos b) N),
)

quotient_near : {u : Float} {N : ℤ} (b : ℕ) (q : Result u (N *ℤ pos (2 ^ 1074)) (pos b)) → pos 0 ≺ pos b → pos 0 ≺ N → N ≺ pos b
    → Within (pos 2 *ℤ (q.R *ℤ pos b -ℤ N *ℤ pos (2 ^ 1074))) (pos (2 ^ 1030) *ℤ pos b)
quotient_near {u} {N} b q b0 l h =
    rounded_within {B = pos b *ℤ pos (2 ^ 1074)} 1030 b0 q.rnd (within_mul (pos (2 ^ 1074)) (pos_nonneg (2 ^ 1074)) (both N (pos b) l h))
    (bound (pos b) (pos (2 ^ 1030)) (mul_pos {b = pos (2 ^ 1030)} b0 (record { lt = tt })))
  where
    both : (N b : ℤ) → pos 0 ≺ N → N ≺ b → Within N b
    both N b l h = record { low = le_from (N ∷ b ∷ []) (L.lt l ∷ L.lt h ∷ []) (search quote depth 30) (omega arith); high = <ℤ→≤ℤ h }

    bound : (b S : ℤ) → pos 0 ≺ b *ℤ S → b *ℤ (pos (2 ^ 44) *ℤ S) ≺ pos (2 ^ 53) *ℤ (S *ℤ b)
    bound b S l = lt_from (b ∷ S ∷ []) (L.lt l ∷ []) (search quote depth 30) (omega arith)

and_true : (a b c : Bool) → (a && b) && c ≡ true → (a ≡ true) × (b ≡ true) × (c ≡ true)
and_true true true true h = (refl, refl, refl)
and_true true true false h = absurd (true≢false (sym h))
and_true true false c h = absurd (true≢false (sym h))
and_true false b c h = absurd (true≢false (sym h))

still : (d : Float) → T (eq d zeroᶠ) → ne d zeroᶠ ≡ true → ⊥
unfolding ne
still d h e = true≢false (sym (rw (is_true (eq d zeroᶠ) h) at e))

share : {u : Float} (q : (U : ℤ) × Is 1074 u U) → lt zeroᶠ u ≡ true → lt u one ≡ true → (q.0 ≺ pos (2 ^ 1074)) × (nat_abs q.0 ≤ 2 ^ 1074)
share {u} q h k =
    let l = is_below (zero_is 1074) q.1 (subst T (sym h) tt) in
    let r = is_below q.1 (equation→is one refl) (subst T (sym k) tt) in
    (r, le_of_within (record { low = low q.0 (pos (2 ^ 1074)) (pos_nonneg (2 ^ 1074)) l; high = <ℤ→≤ℤ r }))
  where
    low : (U K : ℤ) → pos 0 ≦ K → pos 0 ≺ U → neg_ℤ K ≦ U
    low U K h l = le_from (U ∷ K ∷ []) (L.le h ∷ L.lt l ∷ []) (search quote depth 30) (omega arith)

met : {p d : Float} {z : ℤ} (D : ℤ) → Is 10 p z → Is 10 d D → nat_abs D ≤ 2 ^ 31 → cut_at d (div binary64 p d) ≡ true → Met (div binary64 p d) D z
met {p} {d} {z} (pos zero) hp hd l c = absurd (still d (→eq hd (zero_is 10) refl) (and_true _ _ _ c).0)
met {p} {d} {z} (pos (suc m)) hp hd l c =
    let k = and_true (ne d zeroᶠ) (lt zeroᶠ (div binary64 p d)) (lt (div binary64 p d) one) c in
    let n = inside (div_rounds false hp hd (zero-lt-suc m)) k.1 k.2 in
    let q = div_result 10 0 1074 refl false hp hd (zero-lt-suc m)
    (le_trans (size z m n.0 n.1) (le_trans l (le_trans (lit≤ {n = 1 * 2 ^ 1022} tt) (mul-le-mul_right (2 ^ 1022) (zero-lt-suc m))))) in
    let i = share (q.R, q.is) k.1 k.2 in
    record {
      U = q.R;
      is = q.is;
      below = i.0;
      size = i.1;
      near = meets_ahead (pos (2 ^ 1030)) (pos_nonneg (2 ^ 1030)) q.R (pos (suc m)) z (pos_le l) (quotient_near (suc m) q (pos_lt (zero-lt-suc m)) n.0 n.1);
      apart = inl (up z n.0, less z (pos (suc m)) n.1);
    }
  where
    up : (z : ℤ) → pos 0 ≺ pos 1 *ℤ z → pos 0 ≺ z
    up z l = lt_from (z ∷ []) (L.lt l ∷ []) (search quote depth 30) (omega arith)

    less : (z b : ℤ) → pos 1 *ℤ z ≺ b → z ≺ b
    less z b l = lt_from (z ∷ b ∷ []) (L.lt l ∷ []) (search quote depth 30) (omega arith)

    lower : (z b : ℤ) → pos 0 ≺ pos 1 *ℤ z → pos 1 *ℤ z ≺ b → neg_ℤ b ≦ z
    lower z b l h = le_from (z ∷ b ∷ []) (L.lt l ∷ L.lt h ∷ []) (search quote depth 30) (omega arith)

    size : (z : ℤ) (m : ℕ) → pos 0 ≺ pos 1 *ℤ z → pos 1 *ℤ z ≺ pos (suc m) → nat_abs z ≤ suc m
    size z m l h = le_of_within (record { low = lower z (pos (suc m)) l h; high = <ℤ→≤ℤ (less z (pos (suc m)) h) })
met {p} {d} {z} (negsuc m) hp hd l c =
    let k = and_true (ne d zeroᶠ) (lt zeroᶠ (div binary64 p d)) (lt (div binary64 p d) one) c in
    let n = inside (div_rounds true hp hd (zero-lt-suc m)) k.1 k.2 in
    let q = div_result 10 0 1074 refl true hp hd (zero-lt-suc m)
    (le_trans (size z m n.0 n.1) (le_trans l (le_trans (lit≤ {n = 1 * 2 ^ 1022} tt) (mul-le-mul_right (2 ^ 1022) (zero-lt-suc m))))) in
    let i = share (q.R, q.is) k.1 k.2 in
    record {
      U = q.R;
      is = q.is;
      below = i.0;
      size = i.1;
      near = meets_back (pos (2 ^ 1030)) (pos_nonneg (2 ^ 1030)) q.R (pos (suc m)) z (pos_le l) (quotient_near (suc m) q (pos_lt (zero-lt-suc m)) n.0 n.1);
      apart = inr (down z n.0, more z (pos (suc m)) n.1);
    }
  where
    down : (z : ℤ) → pos 0 ≺ negsuc 0 *ℤ z → z ≺ pos 0
    down z l = lt_from (z ∷ []) (L.lt l ∷ []) (search quote depth 30) (omega arith)

    more : (z b : ℤ) → negsuc 0 *ℤ z ≺ b → neg_ℤ b ≺ z
    more z b l = lt_from (z ∷ b ∷ []) (L.lt l ∷ []) (search quote depth 30) (omega arith)

    upper : (z b : ℤ) → pos 0 ≺ negsuc 0 *ℤ z → negsuc 0 *ℤ z ≺ b → z ≦ b
    upper z b l h = le_from (z ∷ b ∷ []) (L.lt l ∷ L.lt h ∷ []) (search quote depth 30) (omega arith)

    size : (z : ℤ) (m : ℕ) → pos 0 ≺ negsuc 0 *ℤ z → negsuc 0 *ℤ z ≺ pos (suc m) → nat_abs z ≤ suc m
    size z m l h = le_of_within (record { low = <ℤ→≤ℤ (more z (pos (suc m)) h); high = upper z (pos (suc m)) l h })

-- ---- half of w, and the way d times that
record Half (w d : Float) (W D : ℤ) : Type 0 where
  H : ℤ
  half_is : Is 1074 (mul binary64 half w) H
  half_near : Within (pos 2 *ℤ (H *ℤ pos 2 -ℤ W)) (pos (2 ^ 1030) *ℤ pos 2)
  P : ℤ
  way_is : Is 1074 (mul binary64 (mul binary64 half w) d) P
  way_at : Within (pos 2 *ℤ (P *ℤ pos (2 ^ 10) -ℤ H *ℤ D)) (pos (2 ^ 34) *ℤ pos (2 ^ 1030))

halved : {w d : Float} {W D : ℤ} → Is 1074 w W → nat_abs W ≤ 2 ^ 1079 → Is 10 d D → nat_abs D ≤ 2 ^ 31 → Half w d W D
halved {w} {d} {W} {D} hw nw hd nd =
    let h = half_result hw (le_trans nw (lit≤ tt)) in
    let nh : nat_abs h.R ≤ 2 ^ 1081 = le_trans (rounded_nat_abs (2 ^ 1079) (lit< tt) h.rnd (le_trans nw (lit≤ tt))) (lit≤ tt) in
    let np : nat_abs (h.R *ℤ D) ≤ 2 ^ 1112 = rw (nat_abs_mul h.R D) (le_trans (mul-le-mul nh nd) (lit≤ tt)) in
    let p = result_cancel {n = h.R *ℤ D} {c = pos (2 ^ 10)} (pos (2 ^ 1074)) (record { lt = tt }) (rounds_result (mul_rounds h.is hd) (le_trans np (lit≤ tt))) in
    record {
      H = h.R;
      half_is = h.is;
      half_near = rounded_within {B = pos (2 ^ 1079)} 1030 (record { lt = tt }) h.rnd (within_nat_abs nw) (record { lt = tt });
      P = p.R;
      way_is = p.is;
      way_at = rounded_within {B = pos (2 ^ 1112)} 1054 (record { lt = tt }) p.rnd (within_nat_abs np) (record { lt = tt });
    }

-- ---- a rounding of what is a quarter of a step or more from a number of the grid is on the same side of it
quarter : ℤ → Float
quarter Q = round binary64 (sign Q) (nat_abs Q) (2 ^ 12)

quarter_rounds : (Q : ℤ) → Rounds (quarter Q) Q (2 ^ 12)
unfolding quarter
quarter_rounds Q = record { sign = sign Q; mag = nat_abs Q; den_pos = lit< tt; same = refl; val = signed_of_sign Q }

quarter_size : (C e : ℤ) → nat_abs C ≤ 2 ^ 30 → nat_abs e ≤ 1 → nat_abs (pos 4 *ℤ C +ℤ e) ≤ 2 ^ 53
quarter_size C e h k = le_trans (nat_abs_add (pos 4 *ℤ C) e) (rw (nat_abs_mul (pos 4) C) (le_trans (add-le-add (mul-le-mul (le_refl 4) h) k) (lit≤ tt)))

rounds_below : {m v : Float} {M C : ℤ} → Rounds m M (2 ^ 1074) → Is 10 v C → nat_abs C ≤ 2 ^ 30 → M *ℤ pos (2 ^ 12) ≦ (pos 4 *ℤ C -ℤ pos 1) *ℤ pos (2 ^ 1074) → T (lt m v)
rounds_below {m} {v} {M} {C} r hv nc l =
    let q = quarter_rounds (pos 4 *ℤ C -ℤ pos 1) in
    through_below m (quarter (pos 4 *ℤ C -ℤ pos 1)) v (rounds_order r q l)
    (subst T (sym (lt_is (rounds_exact 12 q (lit≤ tt) (quarter_size C (negsuc 0) nc (lit≤ tt))) (rescale 2 hv) ∙ lt_true (less C))) tt)
  where
    less : (C : ℤ) → pos 4 *ℤ C -ℤ pos 1 ≺ C *ℤ pos (2 ^ 2)
    less C = lt_from (C ∷ []) [] (search quote depth 30) (omega arith)

rounds_above : {m v : Float} {M C : ℤ} → Rounds m M (2 ^ 1074) → Is 10 v C → nat_abs C ≤ 2 ^ 30 → (pos 4 *ℤ C +ℤ pos 1) *ℤ pos (2 ^ 1074) ≦ M *ℤ pos (2 ^ 12) → T (lt v m)
rounds_above {m} {v} {M} {C} r hv nc l =
    let q = quarter_rounds (pos 4 *ℤ C +ℤ pos 1) in
    below_through v (quarter (pos 4 *ℤ C +ℤ pos 1)) m
    (subst T (sym (lt_is (rescale 2 hv) (rounds_exact 12 q (lit≤ tt) (quarter_size C (pos 1) nc (lit≤ tt))) ∙ lt_true (more C))) tt) (rounds_order q r l)
  where
    more : (C : ℤ) → C *ℤ pos (2 ^ 2) ≺ pos 4 *ℤ C +ℤ pos 1
    more C = lt_from (C ∷ []) [] (search quote depth 30) (omega arith)

-- ---- on which side a coordinate is
side_below : (s : HalfPlane) (m : Float) → T (lt m s.v) → coord_inside s m ≡ not s.above
side_below s m l = go s.above
  where
    go : (up : Bool) → cond up (le s.v m) (le m s.v) ≡ not up
    go true = never_true (le s.v m) (below_not_le m s.v l)
    go false = is_true (le m s.v) (below_le m s.v (is_true (lt m s.v) l))

side_above : (s : HalfPlane) (m : Float) → T (lt s.v m) → coord_inside s m ≡ s.above
side_above s m l = go s.above
  where
    go : (up : Bool) → cond up (le s.v m) (le m s.v) ≡ up
    go true = is_true (le s.v m) (below_le s.v m (is_true (lt s.v m) l))
    go false = never_true (le m s.v) (below_not_le s.v m l)

not_not : (c : Bool) → not (not c) ≡ c
not_not true = refl
not_not false = refl

-- ---- the two middles
module _ (s : HalfPlane) (a b : Float) (A B C : ℤ) (ha : Is 10 a A) (hb : Is 10 b B) (hv : Is 10 s.v C)
    (na : nat_abs A ≤ 2 ^ 30) (nb : nat_abs B ≤ 2 ^ 30) (nc : nat_abs C ≤ 2 ^ 30) where
  abbrev grows : Float
  grows = sub binary64 b a

  abbrev meets : Float
  meets = div binary64 (sub binary64 s.v a) grows

  grows_is : Is 10 grows (B -ℤ A)
  grows_is = sub_is hb ha (lit≤ tt) (le_trans (add-le-add nb na) (lit≤ tt))

  grows_size : nat_abs (B -ℤ A) ≤ 2 ^ 31
  grows_size = le_trans (nat_abs_add B (neg_ℤ A)) (rw (nat_abs_neg A) (le_trans (add-le-add nb na) (lit≤ tt)))

  -- a middle at half of w, on the side of X
  middle_below : {w : Float} {W : ℤ} (X : ℤ) (h : Half w grows W (B -ℤ A))
      → Within (pos (2 ^ 12) *ℤ (A *ℤ (pos (2 ^ 34) *ℤ pos (2 ^ 1030)) +ℤ h.P) -ℤ pos (2 ^ 45) *ℤ (pos (2 ^ 1030) *ℤ (C +ℤ X))) (pos (2 ^ 38) *ℤ pos (2 ^ 1030))
      → X ≺ C → T (lt (add binary64 a (mul binary64 (mul binary64 half w) grows)) s.v)
  middle_below X h n l = rounds_below (add_rounds (rescale 1064 ha) h.way_is) hv nc
      (below_quarter (pos (2 ^ 1030)) (pos_nonneg (2 ^ 1030)) (A *ℤ (pos (2 ^ 34) *ℤ pos (2 ^ 1030)) +ℤ h.P) C X n l)

  middle_above : {w : Float} {W : ℤ} (X : ℤ) (h : Half w grows W (B -ℤ A))
      → Within (pos (2 ^ 12) *ℤ (A *ℤ (pos (2 ^ 34) *ℤ pos (2 ^ 1030)) +ℤ h.P) -ℤ pos (2 ^ 45) *ℤ (pos (2 ^ 1030) *ℤ (C +ℤ X))) (pos (2 ^ 38) *ℤ pos (2 ^ 1030))
      → C ≺ X → T (lt s.v (add binary64 a (mul binary64 (mul binary64 half w) grows)))
  middle_above X h n l = rounds_above (add_rounds (rescale 1064 ha) h.way_is) hv nc
      (above_quarter (pos (2 ^ 1030)) (pos_nonneg (2 ^ 1030)) (A *ℤ (pos (2 ^ 34) *ℤ pos (2 ^ 1030)) +ℤ h.P) C X n l)

  module _ (m : Met meets (B -ℤ A) (C -ℤ A)) where
    -- 0 + u and u + 1, rounded
    first : Result (add binary64 zeroᶠ meets) (pos 0 +ℤ m.U) (pos 1)
    first = add_result (zero_is 1074) m.is (le_trans (add-le-add (le_refl (nat_abs (pos 0))) m.size) (lit≤ tt))

    first_sum : nat_abs (pos 0 +ℤ m.U) ≤ 2 ^ 1074
    first_sum = le_trans (nat_abs_add (pos 0) m.U) (le_trans (add-le-add (le_refl (nat_abs (pos 0))) m.size) (lit≤ tt))

    first_near : Within (pos 2 *ℤ (first.R *ℤ pos 1 -ℤ (m.U +ℤ pos 0))) (pos (2 ^ 1030) *ℤ pos 1)
    first_near = turn first.R m.U (pos (2 ^ 1030)) (rounded_within {B = pos (2 ^ 1074)} 1030 (record { lt = tt }) first.rnd (within_nat_abs first_sum) (record { lt = tt }))
      where
        turn : (W U S : ℤ) → Within (pos 2 *ℤ (W *ℤ pos 1 -ℤ (pos 0 +ℤ U))) (S *ℤ pos 1) → Within (pos 2 *ℤ (W *ℤ pos 1 -ℤ (U +ℤ pos 0))) (S *ℤ pos 1)
        turn W U S w = record {
          low = le_from (W ∷ U ∷ S ∷ []) (L.le w.low ∷ []) (search quote depth 30) (omega arith);
          high = le_from (W ∷ U ∷ S ∷ []) (L.le w.high ∷ []) (search quote depth 30) (omega arith);
        }

    first_half : Half (add binary64 zeroᶠ meets) grows first.R (B -ℤ A)
    first_half = halved first.is (le_trans (rounded_nat_abs (2 ^ 1074) (lit< tt) first.rnd (le_trans first_sum (lit≤ tt))) (lit≤ tt)) grows_is grows_size

    last : Result (add binary64 meets one) (m.U +ℤ pos (2 ^ 1074)) (pos 1)
    last = add_result m.is (equation→is one refl) (le_trans (add-le-add m.size (lit≤ {n = 2 ^ 1074} tt)) (lit≤ tt))

    last_sum : nat_abs (m.U +ℤ pos (2 ^ 1074)) ≤ 2 ^ 1075
    last_sum = le_trans (nat_abs_add m.U (pos (2 ^ 1074))) (le_trans (add-le-add m.size (le_refl (2 ^ 1074))) (lit≤ tt))

    last_near : Within (pos 2 *ℤ (last.R *ℤ pos 1 -ℤ (m.U +ℤ pos (2 ^ 1074)))) (pos (2 ^ 1030) *ℤ pos 1)
    last_near = rounded_within {B = pos (2 ^ 1075)} 1030 (record { lt = tt }) last.rnd (within_nat_abs last_sum) (record { lt = tt })

    last_half : Half (add binary64 meets one) grows last.R (B -ℤ A)
    last_half = halved last.is (le_trans (rounded_nat_abs (2 ^ 1075) (lit< tt) last.rnd (le_trans last_sum (lit≤ tt))) (lit≤ tt)) grows_is grows_size

    first_at_lem : Within (pos (2 ^ 12) *ℤ (A *ℤ (pos (2 ^ 34) *ℤ pos (2 ^ 1030)) +ℤ first_half.P) -ℤ pos (2 ^ 45) *ℤ (pos (2 ^ 1030) *ℤ (C +ℤ A))) (pos (2 ^ 38) *ℤ pos (2 ^ 1030))
    first_at_lem = first_middle (pos (2 ^ 1030)) (pos_nonneg (2 ^ 1030)) A B C first_half.P
        (way_near (pos (2 ^ 1030)) (pos_nonneg (2 ^ 1030)) m.U first.R (pos 0) first_half.H first_half.P (B -ℤ A) (C -ℤ A)
        (within_nat_abs grows_size) m.near first_near first_half.half_near first_half.way_at)

    last_at : Within (pos (2 ^ 12) *ℤ (A *ℤ (pos (2 ^ 34) *ℤ pos (2 ^ 1030)) +ℤ last_half.P) -ℤ pos (2 ^ 45) *ℤ (pos (2 ^ 1030) *ℤ (C +ℤ B))) (pos (2 ^ 38) *ℤ pos (2 ^ 1030))
    last_at = last_middle (pos (2 ^ 1030)) (pos_nonneg (2 ^ 1030)) A B C last_half.P
        (way_near (pos (2 ^ 1030)) (pos_nonneg (2 ^ 1030)) m.U last.R (pos (2 ^ 1074)) last_half.H last_half.P (B -ℤ A) (C -ℤ A)
        (within_nat_abs grows_size) m.near last_near last_half.half_near last_half.way_at)

    -- half of 0 + u is not 1
    first_inner : eq (mul binary64 half (add binary64 zeroᶠ meets)) one ≡ false
    first_inner = never_true _ (λ (t : T (eq (mul binary64 half (add binary64 zeroᶠ meets)) one)).
        apart_from (eq→ {w = pos (2 ^ 1074)} first_half.half_is (equation→is one refl) t)
        (half_below (pos (2 ^ 1030)) (pos_nonneg (2 ^ 1030)) m.U first.R first_half.H (pos_le (lit≤ tt)) m.below first_near first_half.half_near))
      where
        apart_from : {H K : ℤ} → H ≡ K → H ≺ K → ⊥
        apart_from {H} {K} e l = false_from (H ∷ K ∷ []) (L.eq e ∷ L.lt l ∷ []) (search quote depth 30) (omega arith)

    -- the two marks
    first_mark : (k : Bool) → coord_inside s (add binary64 a (mul binary64 (mul binary64 half (add binary64 zeroᶠ meets)) grows)) ≡ k
        → mark_at s a b (mul binary64 half (add binary64 zeroᶠ meets)) ≡ k
    unfolding mark_at along_of
    first_mark k h = rw first_inner h

    last_mark : (k : Bool) → coord_inside s b ≡ k → coord_inside s (add binary64 a (mul binary64 (mul binary64 half (add binary64 meets one)) grows)) ≡ k
        → mark_at s a b (mul binary64 half (add binary64 meets one)) ≡ k
    unfolding mark_at along_of
    last_mark k g h = by (eq (mul binary64 half (add binary64 meets one)) one)
      where
        by : (c : Bool) → coord_inside s (cond c b (add binary64 a (mul binary64 (mul binary64 half (add binary64 meets one)) grows))) ≡ k
        by true = g
        by false = h

    marks_differ : not (mark_at s a b (mul binary64 half (add binary64 zeroᶠ meets))) ≡ mark_at s a b (mul binary64 half (add binary64 meets one))
    marks_differ = ⊎_elim
        (λ (h : (pos 0 ≺ C -ℤ A) × (C -ℤ A ≺ B -ℤ A)).
        let f = first_mark (not s.above) (side_below s _ (middle_below A first_half first_at_lem (plus A C h.0))) in
        let g = last_mark s.above (side_above s b (subst T (sym (lt_is hv hb ∙ lt_true (minus A C B h.1))) tt))
        (side_above s _ (middle_above B last_half last_at (minus A C B h.1))) in
        ap not f ∙ not_not s.above ∙ sym g)
        (λ (h : (C -ℤ A ≺ pos 0) × (B -ℤ A ≺ C -ℤ A)).
        let f = first_mark s.above (side_above s _ (middle_above A first_half first_at_lem (less A C h.0))) in
        let g = last_mark (not s.above) (side_below s b (subst T (sym (lt_is hb hv ∙ lt_true (minus A B C h.1))) tt))
        (side_below s _ (middle_below B last_half last_at (minus A B C h.1))) in
        ap not f ∙ sym g)
        m.apart
      where
        plus : (A C : ℤ) → pos 0 ≺ C -ℤ A → A ≺ C
        plus A C l = lt_from (A ∷ C ∷ []) (L.lt l ∷ []) (search quote depth 30) (omega arith)

        less : (A C : ℤ) → C -ℤ A ≺ pos 0 → C ≺ A
        less A C l = lt_from (A ∷ C ∷ []) (L.lt l ∷ []) (search quote depth 30) (omega arith)

        minus : (A x y : ℤ) → x -ℤ A ≺ y -ℤ A → x ≺ y
        minus A x y l = lt_from (A ∷ x ∷ y ∷ []) (L.lt l ∷ []) (search quote depth 30) (omega arith)

  meets_is : Is 10 (sub binary64 s.v a) (C -ℤ A)
  meets_is = sub_is hv ha (lit≤ tt) (le_trans (add-le-add nc na) (lit≤ tt))

  cut_differs : cut_at grows meets ≡ true → not (mark_at s a b (mul binary64 half (add binary64 zeroᶠ meets))) ≡ mark_at s a b (mul binary64 half (add binary64 meets one))
  cut_differs c = marks_differ (met (B -ℤ A) meets_is grows_is grows_size c)

-- ---- a line of the grid that is cut: one part is inside and the other is not
abbrev two : Bool → Float → Bool → Bool → Bool → Marks
two c u f l w = cond c (record { cut = Some u; start_kept = f; end_kept = l }) (record { cut = None; start_kept = w; end_kept = w })

two_differ : (u : Float) (c f l w : Bool) → (c ≡ true → not f ≡ l) → is_some (two c u f l w).cut ≡ true → not (two c u f l w).start_kept ≡ (two c u f l w).end_kept
two_differ u true f l w h k = h refl
two_differ u false f l w h k = absurd (true≢false (sym k))

two_cut : (u : Float) (c f l w : Bool) → is_some (two c u f l w).cut ≡ c
two_cut u true f l w = refl
two_cut u false f l w = refl

pub cut_grid_marks : (s : HalfPlane) (a b : Float) {A B C : ℤ} → Is 10 a A → Is 10 b B → Is 10 s.v C → nat_abs A ≤ 2 ^ 30 → nat_abs B ≤ 2 ^ 30 → nat_abs C ≤ 2 ^ 30
    → is_some (marks_between s a b).cut ≡ true → not (marks_between s a b).start_kept ≡ (marks_between s a b).end_kept
unfolding marks_between uncut_of
cut_grid_marks s a b {A} {B} {C} ha hb hv na nb nc =
    two_differ _ (cut_at (sub binary64 b a) (div binary64 (sub binary64 s.v a) (sub binary64 b a))) _ _ _ (cut_differs s a b A B C ha hb hv na nb nc)

-- ---- lines of the grid, all parts of which are inside, are kept whole
-- x is a whole number of steps of 2 ^ -10, and at most 2 ^ 30 of them either way
abbrev pub InSteps : Float → Type 0
InSteps x = (z : ℤ) × Sized 10 (2 ^ 30) x z

coord_steps : (y : Bool) (p : Point) → PointOf InSteps p → InSteps (cond y p.y p.x)
coord_steps true p f = f.y
coord_steps false p f = f.x

grid_differ : (s : HalfPlane) (e : Edge) → InSteps s.v → EdgeOf InSteps e → is_some (marks_of s e).cut ≡ true → not (marks_of s e).start_kept ≡ (marks_of s e).end_kept
unfolding marks_of
grid_differ s e v h =
    let p = coord_steps s.y e.a h.a in
    let q = coord_steps s.y e.b h.b in
    cut_grid_marks s (coord_of s e.a) (coord_of s e.b) p.1.is q.1.is v.1.is p.1.near q.1.near v.1.near

-- a line whose parts are inside is not cut
marks_cut : (s : HalfPlane) (e : Edge) → is_some (marks_of s e).cut ≡ crosses s e
unfolding marks_of marks_between uncut_of crosses
marks_cut s e = two_cut (crossing s e) (crosses s e) _ _ _

one_outside : (c f l : Bool) (x y : Edge) → (c ≡ true → not f ≡ l)
    → any (λ (p : Part). not p.kept) (cond c (record { line = x; kept = f } ∷ record { line = y; kept = l } ∷ []) (record { line = x; kept = f } ∷ [])) ≡ false → c ≡ false
unfolding any fold
one_outside true true true x y h k = sym (h refl)
one_outside true true false x y h k = absurd (true≢false k)
one_outside true false l x y h k = absurd (true≢false k)
one_outside false f l x y h k = refl

grid_uncut : (s : HalfPlane) (e : Edge) → InSteps s.v → EdgeOf InSteps e → any (λ p. not p.kept) (parts_of s e) ≡ false → crosses s e ≡ false
grid_uncut s e v h k =
    sym (marks_cut s e) ∙ one_outside (is_some (marks_of s e).cut) (marks_of s e).start_kept (marks_of s e).end_kept _ _ (grid_differ s e v h) (sym (ap (any (λ p. not p.kept)) (parts_marks s e)) ∙ k)

grid_none_cut : (s : HalfPlane) (es : List Edge) → InSteps s.v → Every (EdgeOf InSteps) es → any (λ p. not p.kept) (parts s es) ≡ false → any (crosses s) es ≡ false
unfolding parts flat_map Every any fold
grid_none_cut s [] v h k = refl
grid_none_cut s (e ∷ es) v h k =
    let q = or_none (any (λ p. not p.kept) (parts_of s e)) (any (λ p. not p.kept) (parts s es)) (sym (any_append (λ p. not p.kept) (parts_of s e) (parts s es)) ∙ k) in
    rw (grid_uncut s e v h.0 q.0) (grid_none_cut s es v h.1 q.1)

pub grid_inside_whole : (s : HalfPlane) (es : List Edge) → InSteps s.v → Every (EdgeOf InSteps) es → any (λ p. not p.kept) (parts s es) ≡ false → Every (KeptWhole s) es
grid_inside_whole s es v h k = uncut_inside_whole s es (grid_none_cut s es v h k) k
