-- Values of the field as whole numbers, their sums and differences, and boxes of such. Assumes nothing.
use mathlib.Core.Path.{refl, ◌≡◌}
use mathlib.Core.Bool.{not, Bool, true, false, cond}
use Prim.Native.Nat.{◌^◌, ◌≤◌, ℕ, ◌+◌, ◌*◌, ◌<◌}
use native.Mathlib.Nat.{le_trans, add-le-add}
use lib.Dec.{T, lit≤, eqb}
use lib.IntN.{ℤ, pos, neg_ℤ, nat_abs, ◌-ℤ◌, ◌*ℤ◌}
use lib.Ieee.{Float, binary64, add, sub, neg, le, is_nan, fits, nan}
use lib.Ieee.Fits.{and_l, and_r, and_i, add-fits, sub-fits}
use lib.Ieee.Scale.{finite}
use Rattle.algebra.specs.Order.{Within, within_nat_abs, nat_abs_neg, nat_abs_add, le_of_within}
use Rattle.number.specs.Exact.{Is, Sized, Held}
use Rattle.number.specs.Hypot.{Short}
use Rattle.number.specs.Signs.{abs_of}
use Rattle.number.proofs.Operations.{equation→is, neg_is, finite_is, is_held}
use Rattle.number.proofs.RoundingLaws.{rounded_within}
use Rattle.number.proofs.ExactLaws.{sub_result}
use Rattle.number.proofs.OrderLaws.{is_order, order_is, right_not_nan, finite_between}
use Rattle.number.proofs.Values.{abs_is, abs_held, rounded_nat_abs, add_grown, is_short}
use Rattle.boundary.specs.declared.Point.{Point}
use Rattle.boundary.specs.declared.Bounds.{Bounds}
use Rattle.boundary.specs.Boxes.{limit, is_in_field, point_in_field, box_fits, BoxOf, DoublePoint, DoubleBox, FieldValue, FieldPoint, FieldBox, FiniteBox, widened_by, edge_in_field}
use mathlib.Core.List.{List}
use native.Mathlib.Omega.{arith}
use lib.ListN.{length, get_or}
use borrow.Author.Tests.{not-false, eqb-false}
use Rattle.lists.specs.Lists.{any}
use Rattle.lists.proofs.FoldLaws.{any_at_lem}
use Rattle.boundary.specs.Outline.{count, after, vertex_at, edge_at}

-- ---- values of the field

-- they are finite, and no NaN
pub in_field_finite : (x : Float) → T (is_in_field x) → T (finite x)
in_field_finite x h = finite_between (neg limit) x limit (unfold neg in tt) tt (and_l (le (neg limit) x) (le x limit) h) (and_r (le (neg limit) x) (le x limit) h)

pub in_field_number : (x : Float) → T (is_in_field x) → T (not (is_nan x))
in_field_number x h = right_not_nan (neg limit) x (and_l (le (neg limit) x) (le x limit) h)

pub field_held : {x : Float} → FieldValue x → Held x
field_held {x} h = record { fits = h.fits; finite = in_field_finite x h.in_field }

limit_is : Is 1074 limit (pos (2 ^ 1094))
limit_is = equation→is limit refl

-- at most 2 ^ 1094 units of 2 ^ -1074
pub field_is : {x : Float} → FieldValue x → (z : ℤ) × Sized 1074 (2 ^ 1094) x z
field_is {x} h =
    let z = finite_is (field_held h) in (
      z.0,
      record {
        is = z.1;
        near = le_of_within (record {
          low = is_order (neg_is limit_is) z.1 (and_l (le (neg limit) x) (le x limit) h.in_field);
          high = is_order z.1 limit_is (and_r (le (neg limit) x) (le x limit) h.in_field);
        });
      },
    )

pub field_box_finite : {b : Bounds} → FieldBox b → FiniteBox b
field_box_finite B = record { min = record { x = field_held B.min.x; y = field_held B.min.y }; max = record { x = field_held B.max.x; y = field_held B.max.y } }

-- the corners of a box that passes test 11 are in the field
pub fits_in_field : (b : Bounds) → T (box_fits b) → BoxOf (λ x. T (is_in_field x)) b
unfolding box_fits
fits_in_field b h =
    let h₁ = and_r (is_in_field b.min.x) _ h in
    let h₂ = and_r (is_in_field b.min.y) _ h₁ in
    let h₃ = and_r (is_in_field b.max.x) _ h₂ in record {
      min = record { x = and_l (is_in_field b.min.x) _ h; y = and_l (is_in_field b.min.y) _ h₁ };
      max = record { x = and_l (is_in_field b.max.x) _ h₂; y = and_l (is_in_field b.max.y) _ h₃ };
    }

-- and where they are `f64`s, it is a box of the field
pub double_field : {b : Bounds} → DoubleBox b → BoxOf (λ x. T (is_in_field x)) b → FieldBox b
double_field D F = record {
  min = record { x = record { fits = D.min.x; in_field = F.min.x }; y = record { fits = D.min.y; in_field = F.min.y } };
  max = record { x = record { fits = D.max.x; in_field = F.max.x }; y = record { fits = D.max.y; in_field = F.max.y } };
}

-- a point and a box of `f64`s that pass the tests of the field
pub double_point_field : {p : Point} → DoublePoint p → T (point_in_field p) → FieldPoint p
double_point_field {p} d t = record {
  x = record { fits = d.x; in_field = and_l (is_in_field p.x) (is_in_field p.y) t };
  y = record { fits = d.y; in_field = and_r (is_in_field p.x) (is_in_field p.y) t };
}

pub double_box_field : {b : Bounds} → DoubleBox b → T (box_fits b) → FieldBox b
double_box_field {b} d t = double_field d (fits_in_field b t)

-- no minimum of a box that passes test 11 is above its maximum
pub fits_ordered : (b : Bounds) → T (box_fits b) → T (le b.min.x b.max.x) × T (le b.min.y b.max.y)
unfolding box_fits
fits_ordered b h =
    let h₁ = and_r (is_in_field b.min.x) _ h in
    let h₂ = and_r (is_in_field b.min.y) _ h₁ in
    let h₃ = and_r (is_in_field b.max.x) _ h₂ in
    let h₄ = and_r (is_in_field b.max.y) _ h₃ in
    (and_l (le b.min.x b.max.x) _ h₄, and_r (le b.min.x b.max.x) _ h₄)

pub field_not_nan : {x : Float} → FieldValue x → T (not (is_nan x))
field_not_nan {x} h = in_field_number x h.in_field

-- at most 2 ^ 1094 units is in the field
pub is_field : {x : Float} {z : ℤ} → Sized 1074 (2 ^ 1094) x z → T (fits binary64 x) → FieldValue x
is_field {x} {z} h F =
    let w = within_nat_abs {x = z} h.near in
    record { fits = F; in_field = and_i (le (neg limit) x) (le x limit) (order_is (neg_is limit_is) h.is w.low) (order_is h.is limit_is w.high) }

pub field_abs : {x : Float} → FieldValue x → FieldValue (abs_of x)
field_abs f = let z = field_is f in is_field (record { is = abs_is z.1.is; near = z.1.near }) (abs_held (field_held f)).fits

-- the difference of two, E units: within 2 ^ -32 of the exact one
pub record Way {a b : Float} (fa : FieldValue a) (fb : FieldValue b) : Type 0 where
  pub E : ℤ
  pub is : Is 1074 (sub binary64 b a) E
  pub size : nat_abs E ≤ 2 ^ 1097
  pub near : Within (pos 2 *ℤ (E *ℤ pos 1 -ℤ ((field_is fb).0 -ℤ (field_is fa).0))) (pos (2 ^ 1043) *ℤ pos 1)

pub way_in_field : {a b : Float} (fa : FieldValue a) (fb : FieldValue b) → Way fa fb
way_in_field fa fb =
    let z = field_is fa in
    let w = field_is fb in
    let both = le_trans (add-le-add w.1.near z.1.near) (lit≤ tt) in
    let apart : nat_abs (w.0 -ℤ z.0) ≤ 2 ^ 1095 = le_trans (nat_abs_add w.0 (neg_ℤ z.0)) (rw (nat_abs_neg z.0) both) in
    let R = sub_result w.1.is z.1.is (le_trans both (lit≤ tt)) in
    record {
      E = R.R;
      is = R.is;
      size = le_trans (rounded_nat_abs (2 ^ 1095) (lit≤ tt) R.rnd apart) (lit≤ tt);
      near = rounded_within {B = pos (2 ^ 1095)} 1043 (record { lt = tt }) R.rnd (within_nat_abs apart) (record { lt = tt });
    }

pub field_sub : {x y : Float} → FieldValue x → FieldValue y → Short (sub binary64 x y)
field_sub {x} {y} h g = let w = way_in_field g h in is_short (record { is = w.is; near = w.size }) (sub-fits binary64 x y)

pub field_add : {x y : Float} → FieldValue x → FieldValue y → Held (add binary64 x y)
field_add {x} {y} h g = is_held (add_grown (field_is h).1 (field_is g).1 (lit≤ tt)).1.is (add-fits binary64 x y)

-- a box of the field, widened by a value of the field, is finite
pub widened_finite : {b : Bounds} {w : Float} → FieldBox b → FieldValue w → FiniteBox (widened_by w b)
widened_finite B f = record {
  min = record { x = (field_sub B.min.x f).held; y = (field_sub B.min.y f).held };
  max = record { x = field_add B.max.x f; y = field_add B.max.y f };
}

-- ---- the edges of an outline whose numbers are all in the field
module _ (v : List Float) (none : any (λ x. not (is_in_field x)) v ≡ false) where
  pub number_in_field : (i : ℕ) → i < length v → is_in_field (get_or v i nan) ≡ true
  number_in_field i l = not-false (is_in_field (get_or v i nan)) (any_at_lem (λ x. not (is_in_field x)) nan v i l none)

  vertex_in_field : (i : ℕ) → i < count v → point_in_field (vertex_at v i) ≡ true
  vertex_in_field i l = rw (number_in_field (2 * i) (omega arith), number_in_field (2 * i + 1) (omega arith))

  pub edge_in_field_lem : (i : ℕ) → i < count v → edge_in_field (edge_at v i) ≡ true
  edge_in_field_lem i l = rw (vertex_in_field i l, vertex_in_field (after (count v) i) (go (eqb (i + 1) (count v)) refl))
    where
      go : (b : Bool) → eqb (i + 1) (count v) ≡ b → cond b 0 (i + 1) < count v
      go true e = omega arith
      go false e = let d = eqb-false (i + 1) (count v) e in omega arith
