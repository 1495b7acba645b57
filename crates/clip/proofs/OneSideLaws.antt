-- One coordinate of a line that goes from a to b: its middle lies between the two, and a line with both ends on one side of a bound is not cut there. Over the whole field. Assumes nothing.
use mathlib.Core.Path.{◌≡◌, refl, sym, subst}
use mathlib.Core.Logic.{◌⊎◌, inl, inr, ⊎_elim}
use mathlib.Core.Bool.{Bool, true, false, cond}
use mathlib.Core.List.{[], ◌∷◌}
use Prim.Native.Nat.{◌^◌, ◌≤◌}
use native.Mathlib.Nat.{le_trans, le_refl, mul-le-mul, add-le-add}
use native.Mathlib.Omega.{arith}
use lib.Dec.{T, lit≤}
use lib.IntN.{ℤ, pos, neg_ℤ, nat_abs, ◌+ℤ◌, ◌-ℤ◌, ◌*ℤ◌, *ℤ_comm}
use lib.Ieee.{Float, binary64, sub, mul, div, le, eq}
use lib.Ieee.Bits.{is_true}
use Rattle.algebra.proofs.Quote.{quote}
use Rattle.algebra.proofs.Lin as L
use Rattle.algebra.proofs.Lin.{le_from}
use Rattle.algebra.specs.Order.{◌≦◌, ◌≺◌, ≤ℤ-or-<ℤ, <ℤ→≤ℤ, pos_nonneg}
use Rattle.algebra.proofs.Mono.{mul_mono}
use Rattle.number.specs.Exact.{Is}
use Rattle.number.specs.Rounding.{Rounds, Rounded, Result}
use Rattle.number.proofs.Operations.{equation→is, is_unique, zero_is, add_rounds, sub_rounds}
use Rattle.number.proofs.RoundingLaws.{rounds_order, rounds_order_is, rounded_neg, rounded_nonneg, rounded_relative_plus, result_cancel}
use Rattle.number.proofs.ExactLaws.{sub_result, mul_result}
use Rattle.number.proofs.OrderLaws.{is_order, order_is, le_through}
use Rattle.number.proofs.Values.{is_rounds}
use Rattle.boundary.specs.Line.{along_of, half}
use Rattle.boundary.specs.declared.Point.{Point}
use Rattle.boundary.specs.Boxes.{FieldValue, FieldPoint}
use Rattle.boundary.proofs.FieldLaws.{field_is, way_in_field}
use Rattle.std.proofs.Common.{None}
use Rattle.clip.specs.declared.HalfPlane.{HalfPlane}
use Rattle.clip.specs.Clip.{in_half_plane}
use Rattle.clip.specs.Passes.{coord_inside, cut_at, mark_at, uncut_of, marks_between}
use Rattle.clip.proofs.CutLaws.{zero_rounds, uncut_ahead, uncut_behind}

-- ---- the middle

-- E is D rounded, M is half of E rounded: for D that is not negative, M is from 0 to D
half_up : {D E M : ℤ} → Rounded E D (pos 1) → Rounded M E (pos 2) → pos 0 ≦ D → (pos 0 ≦ M) × (M ≦ D)
half_up {D} {E} {M} e m up =
    let E0 = rounded_nonneg (record { lt = tt }) e up in
    (rounded_nonneg (record { lt = tt }) m E0, both (first (rounded_relative_plus (record { lt = tt }) e up).high) (second E0 (rounded_relative_plus (record { lt = tt }) m E0).high))
  where
    first : pos (2 ^ 53) *ℤ (E *ℤ pos 1 -ℤ D) ≦ D +ℤ pos (2 ^ 52) *ℤ pos 1 → pos 4 *ℤ E ≦ pos 5 *ℤ D +ℤ pos 2
    first h = le_from (D ∷ E ∷ []) (L.le h ∷ L.le up ∷ []) (search quote depth 30) (omega arith)

    second : pos 0 ≦ E → pos (2 ^ 53) *ℤ (M *ℤ pos 2 -ℤ E) ≦ E +ℤ pos (2 ^ 52) *ℤ pos 2 → pos 8 *ℤ M ≦ pos 5 *ℤ E +ℤ pos 4
    second E0 h = le_from (E ∷ M ∷ []) (L.le h ∷ L.le E0 ∷ []) (search quote depth 30) (omega arith)

    both : pos 4 *ℤ E ≦ pos 5 *ℤ D +ℤ pos 2 → pos 8 *ℤ M ≦ pos 5 *ℤ E +ℤ pos 4 → M ≦ D
    both h g = le_from (D ∷ E ∷ M ∷ []) (L.le h ∷ L.le g ∷ L.le up ∷ []) (search quote depth 30) (omega arith)

-- so A + M is between A and B
half_between : (A B : ℤ) {E M : ℤ} → Rounded E (B -ℤ A) (pos 1) → Rounded M E (pos 2) → ((A ≦ A +ℤ M) × (A +ℤ M ≦ B)) ⊎ ((B ≦ A +ℤ M) × (A +ℤ M ≦ A))
half_between A B {E} {M} e m = ⊎_elim
    (λ (l : A ≦ B). let h = half_up e m (ahead l) in inl (up h.0, upper h.1))
    (λ (l : B ≺ A). let h = half_up (rounded_neg e) (rounded_neg m) (back l) in inr (lower h.1, down h.0))
    (≤ℤ-or-<ℤ A B)
  where
    ahead : A ≦ B → pos 0 ≦ B -ℤ A
    ahead l = le_from (A ∷ B ∷ []) (L.le l ∷ []) (search quote depth 30) (omega arith)

    back : B ≺ A → pos 0 ≦ neg_ℤ (B -ℤ A)
    back l = le_from (A ∷ B ∷ []) (L.lt l ∷ []) (search quote depth 30) (omega arith)

    up : pos 0 ≦ M → A ≦ A +ℤ M
    up l = le_from (A ∷ M ∷ []) (L.le l ∷ []) (search quote depth 30) (omega arith)

    upper : M ≦ B -ℤ A → A +ℤ M ≦ B
    upper l = le_from (A ∷ B ∷ M ∷ []) (L.le l ∷ []) (search quote depth 30) (omega arith)

    lower : neg_ℤ M ≦ neg_ℤ (B -ℤ A) → B ≦ A +ℤ M
    lower l = le_from (A ∷ B ∷ M ∷ []) (L.le l ∷ []) (search quote depth 30) (omega arith)

    down : pos 0 ≦ neg_ℤ M → A +ℤ M ≦ A
    down l = le_from (A ∷ M ∷ []) (L.le l ∷ []) (search quote depth 30) (omega arith)

-- half of E units, rounded
pub half_result : {x : Float} {E : ℤ} → Is 1074 x E → nat_abs E ≤ 2 ^ 1097 → Result (mul binary64 half x) E (pos 2)
half_result {x} {E} h size =
    result_cancel (pos (2 ^ 1073)) (record { lt = tt })
    (subst (λ (n : ℤ). Result (mul binary64 half x) n (pos (2 ^ 1074))) (*ℤ_comm (pos (2 ^ 1073)) E) (mul_result {z = pos (2 ^ 1073)} (equation→is half refl) h (le_trans (mul-le-mul (le_refl (2 ^ 1073)) size) (lit≤ tt))))

over_unit : {x y : Float} {n m : ℤ} → Rounds x n (2 ^ 1074) → Rounds y m (2 ^ 1074) → n ≦ m → T (le x y)
over_unit r s l = rounds_order r s (mul_mono (pos (2 ^ 1074)) (pos_nonneg (2 ^ 1074)) l)

pub mid_between : (a b : Float) → FieldValue a → FieldValue b → (T (le a (along_of a b half)) × T (le (along_of a b half) b)) ⊎ (T (le b (along_of a b half)) × T (le (along_of a b half) a))
unfolding along_of eq
mid_between a b fa fb =
    let A = field_is fa in
    let B = field_is fb in
    let d = sub_result B.1.is A.1.is (le_trans (add-le-add B.1.near A.1.near) (lit≤ tt)) in
    let m = half_result d.is (subst (λ (z : ℤ). nat_abs z ≤ 2 ^ 1097) (is_unique (way_in_field fa fb).is d.is) (way_in_field fa fb).size) in
    let at_a = is_rounds A.1.is fa.fits in
    let at_b = is_rounds B.1.is fb.fits in
    let at-m = add_rounds A.1.is m.is in
    ⊎_elim (λ h. inl (over_unit at_a at-m h.0, over_unit at-m at_b h.1)) (λ h. inr (over_unit at_b at-m h.0, over_unit at-m at_a h.1))
    (half_between A.0 B.0 d.rnd m.rnd)

-- ---- both ends on one side of the bound

differences_order : {a x y : Float} (fa : FieldValue a) (fx : FieldValue x) (fy : FieldValue y) → T (le x y) → (way_in_field fa fx).E ≦ (way_in_field fa fy).E
differences_order fa fx fy l =
    let A = field_is fa in
    let X = field_is fx in
    let Y = field_is fy in
    rounds_order_is (sub_rounds X.1.is A.1.is) (sub_rounds Y.1.is A.1.is) (way_in_field fa fx).is (way_in_field fa fy).is
    (mul_mono (pos (2 ^ 1074)) (pos_nonneg (2 ^ 1074)) (go A.0 X.0 Y.0 (is_order X.1.is Y.1.is l)))
  where
    go : (a x y : ℤ) → x ≦ y → x -ℤ a ≦ y -ℤ a
    go a x y l = le_from (a ∷ x ∷ y ∷ []) (L.le l ∷ []) (search quote depth 30) (omega arith)

difference_low : {a x : Float} (fa : FieldValue a) (fx : FieldValue x) → T (le x a) → (way_in_field fa fx).E ≦ pos 0
difference_low fa fx l =
    let A = field_is fa in
    let X = field_is fx in
    rounds_order_is (sub_rounds X.1.is A.1.is) zero_rounds (way_in_field fa fx).is (zero_is 1074) (go A.0 X.0 (pos (2 ^ 1074)) (is_order X.1.is A.1.is l))
  where
    go : (a x c : ℤ) → x ≦ a → (x -ℤ a) *ℤ pos 1 ≦ pos 0 *ℤ c
    go a x c l = le_from (a ∷ x ∷ c ∷ []) (L.le l ∷ []) (search quote depth 30) (omega arith)

difference_high : {a x : Float} (fa : FieldValue a) (fx : FieldValue x) → T (le a x) → pos 0 ≦ (way_in_field fa fx).E
difference_high fa fx l =
    let A = field_is fa in
    let X = field_is fx in
    rounds_order_is zero_rounds (sub_rounds X.1.is A.1.is) (zero_is 1074) (way_in_field fa fx).is (go A.0 X.0 (pos (2 ^ 1074)) (is_order A.1.is X.1.is l))
  where
    go : (a x c : ℤ) → a ≦ x → pos 0 *ℤ c ≦ (x -ℤ a) *ℤ pos 1
    go a x c l = le_from (a ∷ x ∷ c ∷ []) (L.le l ∷ []) (search quote depth 30) (omega arith)

pub uncut_from_low : (a b v : Float) → FieldValue a → FieldValue b → FieldValue v → T (le v a) → T (le v b) → cut_at (sub binary64 b a) (div binary64 (sub binary64 v a) (sub binary64 b a)) ≡ false
uncut_from_low a b v fa fb fv l m =
    uncut_behind (sub binary64 v a) (sub binary64 b a) (way_in_field fa fv).is (way_in_field fa fb).E (way_in_field fa fb).is (difference_low fa fv l) (differences_order fa fv fb m)

pub uncut_from_high : (a b v : Float) → FieldValue a → FieldValue b → FieldValue v → T (le a v) → T (le b v) → cut_at (sub binary64 b a) (div binary64 (sub binary64 v a) (sub binary64 b a)) ≡ false
uncut_from_high a b v fa fb fv l m =
    uncut_ahead (sub binary64 v a) (sub binary64 b a) (way_in_field fa fv).is (way_in_field fa fb).E (way_in_field fa fb).is (difference_high fa fv l) (differences_order fa fb fv m)

-- ---- the marks of such a line

passes : {c : Bool} → c ≡ true → T c
passes e = subst T (sym e) tt

-- what is not at most is at least
not_le : {x y : Float} → FieldValue x → FieldValue y → le x y ≡ false → T (le y x)
not_le {x} {y} fx fy e =
    let X = field_is fx in
    let Y = field_is fy in
    ⊎_elim (λ (l : Y.0 ≦ X.0). order_is Y.1.is X.1.is l) (λ (l : X.0 ≺ Y.0). absurd (subst T e (order_is X.1.is Y.1.is (<ℤ→≤ℤ l)))) (≤ℤ-or-<ℤ Y.0 X.0)

-- what lies between two coordinates of one side is on that side
between_side : (s : HalfPlane) (a m b : Float) → T (le a m) → T (le m b) → (k : Bool) → coord_inside s a ≡ k → coord_inside s b ≡ k → coord_inside s m ≡ k
between_side s a m b l h = go s.above
  where
    no_more : (c : Bool) → (T c → ⊥) → c ≡ false
    no_more true f = absurd (f tt)
    no_more false f = refl

    go : (up k : Bool) → cond up (le s.v a) (le a s.v) ≡ k → cond up (le s.v b) (le b s.v) ≡ k → cond up (le s.v m) (le m s.v) ≡ k
    go true true p q = is_true (le s.v m) (le_through s.v a m (passes p) l)
    go true false p q = no_more (le s.v m) (λ t. subst T q (le_through s.v m b t h))
    go false true p q = is_true (le m s.v) (le_through m b s.v h (passes q))
    go false false p q = no_more (le m s.v) (λ t. subst T p (le_through a m s.v l t))

mid_side : (s : HalfPlane) (a b : Float) → FieldValue a → FieldValue b → (k : Bool) → coord_inside s a ≡ k → coord_inside s b ≡ k → coord_inside s (along_of a b half) ≡ k
mid_side s a b fa fb k p q =
    ⊎_elim (λ h. between_side s a (along_of a b half) b h.0 h.1 k p q) (λ h. between_side s b (along_of a b half) a h.0 h.1 k q p) (mid_between a b fa fb)

side_uncut : (s : HalfPlane) (a b : Float) → FieldValue a → FieldValue b → FieldValue s.v → (k : Bool) → coord_inside s a ≡ k → coord_inside s b ≡ k
    → cut_at (sub binary64 b a) (div binary64 (sub binary64 s.v a) (sub binary64 b a)) ≡ false
side_uncut s a b fa fb fv = go s.above
  where
    go : (up k : Bool) → cond up (le s.v a) (le a s.v) ≡ k → cond up (le s.v b) (le b s.v) ≡ k → cut_at (sub binary64 b a) (div binary64 (sub binary64 s.v a) (sub binary64 b a)) ≡ false
    go true true p q = uncut_from_low a b s.v fa fb fv (passes p) (passes q)
    go true false p q = uncut_from_high a b s.v fa fb fv (not_le fv fa p) (not_le fv fb q)
    go false true p q = uncut_from_high a b s.v fa fb fv (passes p) (passes q)
    go false false p q = uncut_from_low a b s.v fa fb fv (not_le fa fv p) (not_le fb fv q)

-- both ends inside, or both outside: not cut, and marked as they are
pub side_marks : (s : HalfPlane) (a b : Float) → FieldValue a → FieldValue b → FieldValue s.v → (k : Bool) → coord_inside s a ≡ k → coord_inside s b ≡ k
    → marks_between s a b ≡ record { cut = None; start_kept = k; end_kept = k }
unfolding marks_between uncut_of mark_at
side_marks s a b fa fb fv k p q = rw (side_uncut s a b fa fb fv k p q, mid_side s a b fa fb k p q)

-- ---- between two bounds of one coordinate: what is outside the high one is inside the low one
pub outside_high_inside_low : (y : Bool) (lo hi : Float) → FieldValue hi → T (le lo hi) → (p : Point) → FieldPoint p
    → in_half_plane (record { y = y; above = false; v = hi }) p ≡ false → in_half_plane (record { y = y; above = true; v = lo }) p ≡ true
unfolding in_half_plane
outside_high_inside_low true lo hi f l p g out = is_true (le lo p.y) (le_through lo hi p.y l (not_le g.y f out))
outside_high_inside_low false lo hi f l p g out = is_true (le lo p.x) (le_through lo hi p.x l (not_le g.x f out))
