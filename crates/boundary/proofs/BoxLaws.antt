-- The nearest point of an edge lies in the widened box of every box that has the edge's ends, so the gap of every box around that one is at most the distance, over the whole field. Assumes nothing.
use mathlib.Core.Path.{◌≡◌, refl}
use mathlib.Core.List.{[], ◌∷◌}
use mathlib.Core.Bool.{not}
use Prim.Native.Nat.{ℕ, ◌*◌, ◌^◌}
use native.Mathlib.Nat.{le_trans, le_refl, mul-le-mul}
use native.Mathlib.Omega.{arith}
use lib.Dec.{T, lit≤}
use lib.IntN.{ℤ, pos, neg_ℤ, ◌+ℤ◌, ◌-ℤ◌, ◌*ℤ◌}
use lib.Pow.{pow_pos}
use lib.Ieee.{Float, of_bits, binary64, add, sub, mul, neg, lt, le, is_nan, fits}
use lib.Ieee.Fits.{mul-fits}
use lib.Ieee.Scale.{finite}
use Rattle.algebra.proofs.Quote.{quote}
use Rattle.algebra.proofs.Lin as Lin
use Rattle.algebra.proofs.Lin.{le_from}
use Rattle.algebra.specs.Order.{◌≦◌, mul_nonneg, mul_le, nat_abs_mul, pos_nonneg}
use Rattle.algebra.proofs.Mono.{mul_mono}
use Rattle.number.specs.Exact.{Is, Held, zeroᶠ, one}
use Rattle.number.specs.Hypot.{Short}
use Rattle.number.specs.Rounding.{Rounds}
use Rattle.number.specs.Signs.{abs_of, max_of}
use Rattle.number.proofs.Operations.{equation→is, zero_is, finite_is, add_rounds, sub_rounds, mul_rounds}
use Rattle.number.proofs.RoundingLaws.{rounds_order, rounds_neg}
use Rattle.number.proofs.ExactLaws.{mul_result}
use Rattle.number.proofs.Monotone.{sub_mono}
use Rattle.number.proofs.OrderLaws.{is_order, le_self, le_through}
use Rattle.number.proofs.MagnitudeOrder.{max_one_of, le_abs, neg_le_abs, abs_nonneg, le_max_left}
use Rattle.number.proofs.Values.{held_not_nan, rounded_nat_abs, is_rounds, rounds_not_nan, add_not_nan, sub_not_nan, mul_not_nan, abs_finite}
use Rattle.boundary.specs.declared.Point.{Point}
use Rattle.boundary.specs.declared.Edge.{Edge}
use Rattle.boundary.specs.declared.Bounds.{Bounds}
use Rattle.boundary.specs.Line.{foot_of}
use Rattle.boundary.specs.Boxes.{PointOf, FieldValue, FieldPoint, FieldEdge, FieldBox, FiniteBox, Between, Inside, hull, edge_box, least_margin, nano, scale_of, widened_by, widened_of, box_fits, Around, gap_along}
use Rattle.boundary.proofs.FieldLaws.{in_field_finite, field_held, field_is, field_box_finite, fits_in_field, field_not_nan, is_field, field_abs, widened_finite}
use Rattle.number.proofs.Basics.{one_of}
use Rattle.boundary.proofs.AlongLaws.{param_share, along_inside, ends_between, along_short, along_at_most}
use Rattle.boundary.proofs.AroundLaws.{NotNan, NumberBox}

-- ---- an edge's box

pub edge_box_field : {e : Edge} → FieldEdge e → FieldBox (edge_box e)
unfolding edge_box hull
edge_box_field {e} E = record {
  min = record { x = one_of FieldValue (lt e.b.x e.a.x) E.b.x E.a.x; y = one_of FieldValue (lt e.b.y e.a.y) E.b.y E.a.y };
  max = record { x = one_of FieldValue (lt e.a.x e.b.x) E.b.x E.a.x; y = one_of FieldValue (lt e.a.y e.b.y) E.b.y E.a.y };
}

pub edge_box_ends : {e : Edge} → FieldEdge e → Inside e.a (edge_box e) × Inside e.b (edge_box e)
unfolding edge_box hull
edge_box_ends {e} E =
    let x = ends_between e.a.x e.b.x (field_not_nan E.a.x) (field_not_nan E.b.x) in
    let y = ends_between e.a.y e.b.y (field_not_nan E.a.y) (field_not_nan E.b.y) in
    (record { x = x.0; y = y.0 }, record { x = x.1; y = y.1 })

-- ---- the nearest point lies in the widened box

pub foot_widened : {e : Edge} {p : Point} {b : Bounds} {w : Float} → FieldEdge e → FieldPoint p → FiniteBox b → Held w → T (le least_margin w) → Inside e.a b → Inside e.b b → Inside (foot_of e p) (widened_by w b)
unfolding foot_of
foot_widened E P B hw W ia ib =
    let t = param_share E P in record {
      x = along_inside E.a.x E.b.x t hw W B.min.x B.max.x ia.x ib.x;
      y = along_inside E.a.y E.b.y t hw W B.min.y B.max.y ia.y ib.y;
    }

-- the scale of a box is a value of the field, and at least 1
record Scale (x : Float) : Type 0 where
  field : FieldValue x
  least : T (le one x)

scale_max : {x y : Float} → Scale x → FieldValue y → Scale (max_of x (abs_of y))
scale_max {x} {y} s f =
    let g = field_abs f in
    record { field = max_one_of FieldValue s.field g; least = le_through one x (max_of x (abs_of y)) s.least (le_max_left x (abs_of y) (field_not_nan s.field) (field_not_nan g)) }

scale_of_lem : {b : Bounds} → FieldBox b → Scale (scale_of b)
unfolding scale_of neg
scale_of_lem B = scale_max (scale_max (scale_max (scale_max first B.min.x) B.min.y) B.max.x) B.max.y
  where
    first : Scale one
    first = record { field = record { fits = unfold fits in tt; in_field = unfold le in tt }; least = unfold le in tt }

abbrev nano_units : ℕ
nano_units = 4835703278458517 * 2 ^ 992

nano_is : Is 1074 nano (pos nano_units)
nano_is = equation→is nano refl

-- the widening is a value of the field, and at least 2 ^ -31
pub widening_field : {b : Bounds} → FieldBox b → FieldValue (mul binary64 nano (scale_of b))
widening_field {b} B =
    let z = field_is (scale_of_lem B).field in
    let small = mul-le-mul (le_refl nano_units) z.1.near in
    let m = mul_result nano_is z.1.is (le_trans small (lit≤ tt)) in
    is_field (record { is = m.is; near = le_trans (rounded_nat_abs (2 ^ 1070) (pow_pos 1074) m.rnd (rw (nat_abs_mul (pos nano_units) z.0) (le_trans small (lit≤ tt)))) (lit≤ tt) }) (mul-fits binary64 nano (scale_of b))

pub widening_hair : {b : Bounds} → FieldBox b → T (le least_margin (mul binary64 nano (scale_of b)))
widening_hair B =
    let s = scale_of_lem B in
    let z = field_is s.field in
    rounds_order (is_rounds {k = 1074} {z = pos (2 ^ 1043)} (equation→is least_margin refl) (unfold fits in tt)) (mul_rounds nano_is z.1.is)
    (above (pos (2 ^ 1043)) (pos nano_units) z.0 (pos (2 ^ 1074)) (record { le = tt }) (record { le = tt }) (record { le = tt }) (is_order (equation→is one refl) z.1.is s.least))
  where
    above : (h n m u : ℤ) → pos 0 ≦ u → pos 0 ≦ n → h ≦ n → u ≦ m → h *ℤ (u *ℤ u) ≦ n *ℤ m *ℤ u
    above h n m u u0 n0 hn um = le_from (h ∷ n ∷ m ∷ u ∷ []) (Lin.le (mul_mono (u *ℤ u) (mul_nonneg u0 u0) hn) ∷ Lin.le (mul_nonneg (mul_le n0 um) u0) ∷ []) (search quote depth 30) (omega arith)

-- less what is not negative is at most, and with it at least
less_below : {x w : Float} → FieldValue x → FieldValue w → T (le zeroᶠ w) → T (le (sub binary64 x w) x)
less_below fx fw h =
    let z = field_is fx in
    let w = field_is fw in
    rounds_order (sub_rounds z.1.is w.1.is) (is_rounds z.1.is fx.fits) (mul_mono (pos (2 ^ 1074)) (pos_nonneg (2 ^ 1074)) (less z.0 w.0 (is_order (zero_is 1074) w.1.is h)))
  where
    less : (z w : ℤ) → pos 0 ≦ w → z -ℤ w ≦ z
    less z w h = le_from (z ∷ w ∷ []) (Lin.le h ∷ []) (search quote depth 30) (omega arith)

more_above : {x w : Float} → FieldValue x → FieldValue w → T (le zeroᶠ w) → T (le x (add binary64 x w))
more_above fx fw h =
    let z = field_is fx in
    let w = field_is fw in
    rounds_order (is_rounds z.1.is fx.fits) (add_rounds z.1.is w.1.is) (mul_mono (pos (2 ^ 1074)) (pos_nonneg (2 ^ 1074)) (more z.0 w.0 (is_order (zero_is 1074) w.1.is h)))
  where
    more : (z w : ℤ) → pos 0 ≦ w → z ≦ z +ℤ w
    more z w h = le_from (z ∷ w ∷ []) (Lin.le h ∷ []) (search quote depth 30) (omega arith)

pub widened_box_finite : {b : Bounds} → FieldBox b → FiniteBox (widened_of b)
unfolding widened_of
widened_box_finite B = widened_finite B (widening_field B)

-- and it is around the box
pub widened_around : {b : Bounds} → FieldBox b → Around (widened_of b) b
unfolding widened_of
widened_around {b} B =
    let w = widening_field B in
    let positive : T (le zeroᶠ (mul binary64 nano (scale_of b))) = le_through zeroᶠ least_margin (mul binary64 nano (scale_of b)) (unfold le in tt) (widening_hair B) in
    record {
      left = less_below B.min.x w positive;
      right = more_above B.max.x w positive;
      bottom = less_below B.min.y w positive;
      top = more_above B.max.y w positive;
    }

grow_finite : (x y : Float) → T (finite x) → T (finite y) → T (finite (max_of x (abs_of y)))
grow_finite x y p q = max_one_of (λ v. T (finite v)) {x = x} {y = abs_of y} p (abs_finite y q)

-- a box that passes test 11 has finite corners, and its widened box no NaN
pub fits_wide : (b : Bounds) → T (box_fits b) → NumberBox (widened_of b)
unfolding widened_of scale_of
fits_wide b h =
    let F = fits_in_field b h in
    let left = in_field_finite b.min.x F.min.x in
    let bottom = in_field_finite b.min.y F.min.y in
    let right = in_field_finite b.max.x F.max.x in
    let top = in_field_finite b.max.y F.max.y in
    let s₁ = max_of one (abs_of b.min.x) in
    let s₂ = max_of s₁ (abs_of b.min.y) in
    let s₃ = max_of s₂ (abs_of b.max.x) in
    let scale : T (finite (scale_of b)) = grow_finite s₃ b.max.y (grow_finite s₂ b.max.x (grow_finite s₁ b.min.y (grow_finite one b.min.x tt left) bottom) right) top in
    let w = mul binary64 nano (scale_of b) in
    let m : NotNan w = mul_not_nan nano (scale_of b) tt scale in
    record {
      min = record { x = sub_not_nan b.min.x w left m; y = sub_not_nan b.min.y w bottom m };
      max = record { x = add_not_nan b.max.x w right m; y = add_not_nan b.max.y w top m };
    }

-- THE FOOT: the nearest point of an edge lies in the widened box of every box that has both its ends
pub foot_inside : {e : Edge} {p : Point} {b : Bounds} → FieldEdge e → FieldPoint p → FieldBox b → Inside e.a b → Inside e.b b → Inside (foot_of e p) (widened_of b)
unfolding widened_of
foot_inside E P B ia ib = foot_widened E P (field_box_finite B) (field_held (widening_field B)) (widening_hair B) ia ib

-- so in that of its own box
pub foot_in_own : {e : Edge} {p : Point} → FieldEdge e → FieldPoint p → Inside (foot_of e p) (widened_of (edge_box e))
foot_in_own E P = let ends = edge_box_ends E in foot_inside E P (edge_box_field E) ends.0 ends.1

-- ---- boxes around one another

pub around_inside : {q : Point} {n b : Bounds} → Around n b → Inside q b → Inside q n
around_inside {q} {n} {b} A i = record {
  x = record { low = le_through n.min.x b.min.x q.x A.left i.x.low; high = le_through q.x b.max.x n.max.x i.x.high A.right };
  y = record { low = le_through n.min.y b.min.y q.y A.bottom i.y.low; high = le_through q.y b.max.y n.max.y i.y.high A.top };
}

-- ---- the gap of a box that has the point q is at most the distance from q, of one axis

module _ {lo hi p q : Float} (L : Held lo) (H : Held hi) (P : Held p) (Q : Held q) (i : Between lo q hi) where
  abbrev d : Float
  d = sub binary64 p q

  d_rounds : Rounds d ((finite_is P).0 -ℤ (finite_is Q).0) (2 ^ 1074)
  d_rounds = sub_rounds (finite_is P).1 (finite_is Q).1

  d_number : T (not (is_nan d))
  d_number = rounds_not_nan d_rounds

  below : T (le (sub binary64 lo p) (abs_of d))
  below = le_through (sub binary64 lo p) (neg d) (abs_of d) (rounds_order (sub_rounds (finite_is L).1 (finite_is P).1) (rounds_neg d_rounds) (turned (finite_is L).0 (finite_is P).0 (finite_is Q).0 (pos (2 ^ 1074)) (pos_nonneg (2 ^ 1074)) (is_order (finite_is L).1 (finite_is Q).1 i.low))) (neg_le_abs d d_number)
    where
      turned : (l p q u : ℤ) → pos 0 ≦ u → l ≦ q → (l -ℤ p) *ℤ u ≦ neg_ℤ (p -ℤ q) *ℤ u
      turned l p q u u0 h = le_from (l ∷ p ∷ q ∷ u ∷ []) (Lin.le (mul_mono u u0 h) ∷ []) (search quote depth 30) (omega arith)

  above : T (le (sub binary64 p hi) (abs_of d))
  above = le_through (sub binary64 p hi) d (abs_of d) (sub_mono P P H Q (le_self p (held_not_nan P)) i.high) (le_abs d d_number)

  pub gap_along_lem : T (le (gap_along lo hi p) (abs_of (sub binary64 p q)))
  unfolding gap_along
  gap_along_lem = max_one_of (λ (v : Float). T (le v (abs_of d))) (max_one_of (λ (v : Float). T (le v (abs_of d))) below above) (abs_nonneg d d_number)

-- the differences from the nearest point, for `hypot_clear`
pub foot_short : {e : Edge} {p : Point} → FieldEdge e → FieldPoint p → Short (sub binary64 p.x (foot_of e p).x) × Short (sub binary64 p.y (foot_of e p).y)
unfolding foot_of
foot_short E P = let t = param_share E P in (along_short E.a.x E.b.x P.x t, along_short E.a.y E.b.y P.y t)

-- the nearest point of an edge is at most 2 ^ 23 away from the origin, of each axis
pub foot_at_most : {e : Edge} {p : Point} → FieldEdge e → FieldPoint p → PointOf Short (foot_of e p)
unfolding foot_of
foot_at_most E P = let t = param_share E P in record { x = along_at_most E.a.x E.b.x t; y = along_at_most E.a.y E.b.y t }

-- ---- a worked example: 1e-9 as the Rust has it
example_nano : of_bits binary64 0x3e11_2e0b_e826_d695 ≡ nano
unfolding of_bits
example_nano = refl
