-- The gap of a box that has the nearest point of an edge is at most the edge's distance, squared or not; a corner of the box is an `f64`, and may be infinite. Assumes nothing.
use mathlib.Core.Path.{◌≡◌, refl}
use mathlib.Core.Bool.{Bool, true, false, cond}
use lib.Dec.{T}
use lib.Ieee.{Float, nan, inf, fin, binary64, add, sub, neg, lt, le, eq, is_nan, fits}
use lib.Ieee.Scale.{finite}
use Rattle.number.specs.Exact.{Held, zeroᶠ}
use Rattle.number.specs.Signs.{abs_of, max_of}
use Rattle.number.proofs.Operations.{finite_is, sub_rounds}
use Rattle.number.proofs.HypotLaws.{squares_mono, hypot_mono, hypot_not_nan}
use Rattle.number.proofs.OrderLaws.{le_self, le_through, below_le, left_not_nan, right_not_nan}
use Rattle.number.proofs.MagnitudeOrder.{max_one_of, abs_nonneg, abs_at_most, le_max_left, le_max_right}
use Rattle.number.proofs.Values.{held_not_nan, rounds_not_nan}
use Rattle.number.proofs.Basics.{one_of}
use Rattle.boundary.specs.declared.Point.{Point}
use Rattle.boundary.specs.declared.Edge.{Edge}
use Rattle.boundary.specs.declared.Bounds.{Bounds}
use Rattle.boundary.specs.Boxes.{PointOf, FieldPoint, FieldEdge, FieldBox, DoubleBox, Between, Inside, Around, greater, widened_of, gap_along, gap_of, out_along, gap_squares_of}
use Rattle.boundary.specs.Line.{less_point, squares_of, param_of, foot_of, line_near}
use Rattle.boundary.proofs.AlongLaws.{along_fits, between_held}
use Rattle.boundary.proofs.AroundLaws.{NotNan, least}
use Rattle.boundary.proofs.BoxLaws.{foot_inside, around_inside, widened_box_finite, gap_along_lem}
use Rattle.boundary.proofs.FieldLaws.{field_held}

difference_number : {a b : Float} → Held a → Held b → NotNan (sub binary64 a b)
difference_number A B = rounds_not_nan (sub_rounds (finite_is A).1 (finite_is B).1)

-- never negative, and so no NaN
out_nonneg : (lo hi p : Float) → T (le zeroᶠ (out_along lo hi p))
unfolding out_along
out_nonneg lo hi p = go (greater (sub binary64 lo p) (sub binary64 p hi))
  where
    go : (x : Float) → T (le zeroᶠ (greater zeroᶠ x))
    go x = at (lt zeroᶠ x) refl
      where
        at : (c : Bool) → lt zeroᶠ x ≡ c → T (le zeroᶠ (cond c x zeroᶠ))
        at true e = below_le zeroᶠ x e
        at false e = unfold le lt eq in tt

-- ---- of one axis: p and q are finite, and q is between lo and hi
module _ {p q : Float} (P : Held p) (Q : Held q) where
  abbrev d : Float
  d = sub binary64 p q

  d_number : NotNan d
  d_number = difference_number P Q

  size_number : NotNan (abs_of d)
  size_number = right_not_nan zeroᶠ (abs_of d) (abs_nonneg d d_number)

  self : T (le q q)
  self = le_self q (held_not_nan Q)

  -- a finite end
  low_finite : {lo : Float} → Held lo → T (le lo q) → T (le (sub binary64 lo p) (abs_of d))
  unfolding gap_along
  low_finite {lo} L h =
      let a = sub binary64 lo p in
      let n = difference_number L P in
      le_through a (gap_along lo q p) (abs_of d)
      (le_through a (max_of a d) (gap_along lo q p) (le_max_left a d n d_number) (le_max_left (max_of a d) zeroᶠ (max_one_of NotNan {x = a} {y = d} n d_number) (unfold is_nan in tt)))
      (gap_along_lem L Q P Q (record { low = h; high = self }))

  high_finite : {hi : Float} → Held hi → T (le q hi) → T (le (sub binary64 p hi) (abs_of d))
  unfolding gap_along
  high_finite {hi} H h =
      let a = sub binary64 q p in
      let b = sub binary64 p hi in
      let n = difference_number Q P in
      let m = difference_number P H in
      le_through b (gap_along q hi p) (abs_of d)
      (le_through b (max_of a b) (gap_along q hi p) (le_max_right a b m) (le_max_left (max_of a b) zeroᶠ (max_one_of NotNan {x = a} {y = b} n m) (unfold is_nan in tt)))
      (gap_along_lem Q H P Q (record { low = self; high = h }))

  -- an infinite one
  infinite_low : (p : Float) → T (finite p) → (x : Float) → NotNan x → T (le (sub binary64 (inf true) p) x)
  unfolding sub add neg
  infinite_low nan f x n = absurd f
  infinite_low (inf s) f x n = absurd f
  infinite_low (fin s m e) f x n = least x n

  infinite_high : (p : Float) → T (finite p) → (x : Float) → NotNan x → T (le (sub binary64 p (inf false)) x)
  unfolding sub add neg
  infinite_high nan f x n = absurd f
  infinite_high (inf s) f x n = absurd f
  infinite_high (fin s m e) f x n = least x n

  never_above : (q : Float) → T (finite q) → T (le (inf false) q) → ⊥
  unfolding le lt eq
  never_above nan f h = absurd f
  never_above (inf s) f h = absurd f
  never_above (fin s m e) f h = absurd h

  never_below : (q : Float) → T (finite q) → T (le q (inf true)) → ⊥
  unfolding le lt eq
  never_below nan f h = absurd f
  never_below (inf s) f h = absurd f
  never_below (fin s m e) f h = absurd h

  low : (lo : Float) → T (fits binary64 lo) → T (le lo q) → T (le (sub binary64 lo p) (abs_of d))
  unfolding le lt eq
  low nan F h = absurd h
  low (inf true) F h = infinite_low p P.finite (abs_of d) size_number
  low (inf false) F h = absurd (never_above q Q.finite h)
  low (fin s m e) F h = low_finite (record { fits = F; finite = tt }) h

  high : (hi : Float) → T (fits binary64 hi) → T (le q hi) → T (le (sub binary64 p hi) (abs_of d))
  unfolding is_nan
  high nan F h = absurd (right_not_nan q nan h)
  high (inf true) F h = absurd (never_below q Q.finite h)
  high (inf false) F h = infinite_high p P.finite (abs_of d) size_number
  high (fin s m e) F h = high_finite (record { fits = F; finite = tt }) h

  gap_size : (lo hi : Float) → T (fits binary64 lo) → T (fits binary64 hi) → Between lo q hi → T (le (abs_of (gap_along lo hi p)) (abs_of d))
  unfolding gap_along
  gap_size lo hi L H i =
      let below : Float → Type 0 = λ x. T (le x (abs_of d)) in
      abs_at_most (gap_along lo hi p) (abs_of d) (le_max_right (max_of (sub binary64 lo p) (sub binary64 p hi)) zeroᶠ (unfold is_nan in tt))
      (max_one_of below (max_one_of below (low lo L i.low) (high hi H i.high)) (abs_nonneg d d_number))

  -- the same without a maximum of IEEE 754
  pub out_size : (lo hi : Float) → T (fits binary64 lo) → T (fits binary64 hi) → Between lo q hi → T (le (abs_of (out_along lo hi p)) (abs_of d))
  unfolding out_along
  out_size lo hi L H i =
      let below : Float → Type 0 = λ x. T (le x (abs_of d)) in
      abs_at_most (out_along lo hi p) (abs_of d) (out_nonneg lo hi p)
      (one_of below (lt zeroᶠ (greater (sub binary64 lo p) (sub binary64 p hi))) (one_of below (lt (sub binary64 lo p) (sub binary64 p hi)) (high hi H i.high) (low lo L i.low)) (abs_nonneg d d_number))

-- ---- a box n of `f64`s around the widened box of a box that has both ends of an edge
module _ {e : Edge} {p : Point} {n b : Bounds} (E : FieldEdge e) (P : FieldPoint p) (B : FieldBox b) (ia : Inside e.a b) (ib : Inside e.b b) (N : DoubleBox n) (A : Around n (widened_of b)) where
  -- it has the edge's nearest point, which is finite
  in_widened : Inside (foot_of e p) (widened_of b)
  in_widened = foot_inside E P B ia ib

  in_box : Inside (foot_of e p) n
  in_box = around_inside A in_widened

  foot_held : PointOf Held (foot_of e p)
  unfolding foot_of
  foot_held =
      let w = widened_box_finite B in record {
        x = between_held w.min.x w.max.x (along_fits e.a.x e.b.x (param_of e p) E.b.x.fits) in_widened.x;
        y = between_held w.min.y w.max.y (along_fits e.a.y e.b.y (param_of e p) E.b.y.fits) in_widened.y;
      }

  -- THE GAP is at most the edge's distance
  pub gap_around : T (le (gap_of n p) (line_near e p).d)
  unfolding gap_of line_near
  gap_around =
      hypot_mono _ _ _ _ (gap_size (field_held P.x) foot_held.x n.min.x n.max.x N.min.x N.max.x in_box.x)
      (gap_size (field_held P.y) foot_held.y n.min.y n.max.y N.min.y N.max.y in_box.y)

  -- and the squared gap at most the squared distance
  pub squares_around : T (le (gap_squares_of n p) (squares_of (less_point p (foot_of e p))))
  unfolding gap_squares_of
  squares_around =
      squares_mono _ _ _ _ (out_size (field_held P.x) foot_held.x n.min.x n.max.x N.min.x N.max.x in_box.x)
      (out_size (field_held P.y) foot_held.y n.min.y n.max.y N.min.y N.max.y in_box.y)

-- ---- a squared gap is a number
pub squares_number : (b : Bounds) (p : Point) → NotNan (gap_squares_of b p)
unfolding gap_squares_of
squares_number b p =
    let x = out_along b.min.x b.max.x p.x in
    let y = out_along b.min.y b.max.y p.y in
    let s = squares_of (record { x = x; y = y }) in
    left_not_nan s s (squares_mono x y x y (size x (out_nonneg b.min.x b.max.x p.x)) (size y (out_nonneg b.min.y b.max.y p.y)))
  where
    size : (z : Float) → T (le zeroᶠ z) → T (le (abs_of z) (abs_of z))
    size z h = le_self (abs_of z) (right_not_nan zeroᶠ (abs_of z) (abs_nonneg z (right_not_nan zeroᶠ z h)))

-- ---- a gap is a number
along_number : (lo hi p : Float) → NotNan (gap_along lo hi p)
unfolding gap_along
along_number lo hi p = right_not_nan zeroᶠ (gap_along lo hi p) (le_max_right (max_of (sub binary64 lo p) (sub binary64 p hi)) zeroᶠ (unfold is_nan in tt))

pub gap_number : (b : Bounds) (p : Point) → NotNan (gap_of b p)
unfolding gap_of
gap_number b p = hypot_not_nan (gap_along b.min.x b.max.x p.x) (gap_along b.min.y b.max.y p.y) (along_number b.min.x b.max.x p.x) (along_number b.min.y b.max.y p.y)
