-- The field, and boxes: a box around points and boxes, a box widened by a hair, and how far a point is from a box (document 01, index.rs). Definitions only.
use Rattle.std.specs.Prelude.{Bool, true, false, cond, ◌&&◌, T, pos, negsuc, Float}
use Rattle.std.specs.Float.{fin, inf, binary64}
use Rattle.std.specs.Float.Ieee.{add, sub, mul, neg, lt, le, eq, fits}
use Rattle.number.specs.Exact.{Held, zeroᶠ, one}
use Rattle.number.specs.Hypot.{hypot_of}
use Rattle.number.specs.Signs.{abs_of, min_of, max_of}
use Rattle.boundary.specs.declared.Point.{Point}
use Rattle.boundary.specs.declared.Edge.{Edge}
use Rattle.boundary.specs.declared.Bounds.{Bounds}
use Rattle.boundary.specs.Line.{squares_of}

-- ---- the *field* (document 01): every finite number of magnitude at most 1,048,576
abbrev pub limit : Float
limit = fin false 1 (pos 20)

abbrev pub is_in_field : Float → Bool
is_in_field x = le (neg limit) x && le x limit

abbrev pub point_in_field : Point → Bool
point_in_field p = is_in_field p.x && is_in_field p.y

abbrev pub edge_in_field : Edge → Bool
edge_in_field e = point_in_field e.a && point_in_field e.b

-- a box of the field, no minimum above its maximum
unfoldable pub box_fits : Bounds → Bool
unfolding neg le
box_fits b = is_in_field b.min.x && (is_in_field b.min.y && (is_in_field b.max.x && (is_in_field b.max.y && (le b.min.x b.max.x && le b.min.y b.max.y))))

-- what holds of a point's two coordinates, of an edge's ends, of a box's corners
pub record PointOf (P : Float → Type 0) (p : Point) : Type 0 where
  pub x : P p.x
  pub y : P p.y

pub record EdgeOf (P : Float → Type 0) (e : Edge) : Type 0 where
  pub a : PointOf P e.a
  pub b : PointOf P e.b

pub record BoxOf (P : Float → Type 0) (b : Bounds) : Type 0 where
  pub min : PointOf P b.min
  pub max : PointOf P b.max

-- x is an `f64` of the field, and the same of points, edges and boxes
pub record FieldValue (x : Float) : Type 0 where
  pub fits : T (fits binary64 x)
  pub in_field : T (is_in_field x)

abbrev pub FieldPoint : Point → Type 0
FieldPoint p = PointOf FieldValue p

abbrev pub FieldEdge : Edge → Type 0
FieldEdge e = EdgeOf FieldValue e

abbrev pub FieldBox : Bounds → Type 0
FieldBox b = BoxOf FieldValue b

-- a box with finite corners
abbrev pub FiniteBox : Bounds → Type 0
FiniteBox b = BoxOf Held b

-- a point whose coordinates are `f64`s, and a box whose corners are
abbrev pub DoublePoint : Point → Type 0
DoublePoint p = PointOf (λ x. T (fits binary64 x)) p

abbrev pub DoubleBox : Bounds → Type 0
DoubleBox b = BoxOf (λ x. T (fits binary64 x)) b

-- ---- a point in a box, and a box around another
-- lo ≤ q ≤ hi
pub record Between (lo q hi : Float) : Type 0 where
  pub low : T (le lo q)
  pub high : T (le q hi)

-- t, an `f64`, is a share of the way: from 0 to 1
pub record Share (t : Float) : Type 0 where
  pub held : Held t
  pub between : Between zeroᶠ t one

pub record Inside (p : Point) (b : Bounds) : Type 0 where
  pub x : Between b.min.x p.x b.max.x
  pub y : Between b.min.y p.y b.max.y

-- the box n is around the box b, which lies inside it: no minimum of b is below that of n, no maximum above
pub record Around (n b : Bounds) : Type 0 where
  pub left : T (le n.min.x b.min.x)
  pub right : T (le b.max.x n.max.x)
  pub bottom : T (le n.min.y b.min.y)
  pub top : T (le b.max.y n.max.y)

-- the same box but for the signs of zeros
pub record SameBox (a b : Bounds) : Type 0 where
  pub left : T (eq a.min.x b.min.x)
  pub bottom : T (eq a.min.y b.min.y)
  pub right : T (eq a.max.x b.max.x)
  pub top : T (eq a.max.y b.max.y)

-- ---- boxes around points and boxes
-- of two numbers the lesser and the greater, the first where they are equal
abbrev pub lesser : Float → Float → Float
lesser a b = cond (lt b a) b a

abbrev pub greater : Float → Float → Float
greater a b = cond (lt a b) b a

-- the box around two boxes
unfoldable pub hull : Bounds → Bounds → Bounds
unfolding lt
hull a b = record {
  min = record { x = lesser a.min.x b.min.x; y = lesser a.min.y b.min.y };
  max = record { x = greater a.max.x b.max.x; y = greater a.max.y b.max.y };
}

-- the same as the Rust has it, by IEEE 754's minimum and maximum
unfoldable pub hull_ieee : Bounds → Bounds → Bounds
hull_ieee a b = record {
  min = record { x = min_of a.min.x b.min.x; y = min_of a.min.y b.min.y };
  max = record { x = max_of a.max.x b.max.x; y = max_of a.max.y b.max.y };
}

-- the box with nothing in it, and the box of one point
abbrev pub empty_box : Bounds
empty_box = record { min = record { x = inf false; y = inf false }; max = record { x = inf true; y = inf true } }

abbrev pub point_box : Point → Bounds
point_box p = record { min = p; max = p }

-- the box of four numbers, as a call is given it
abbrev pub cell_of : Float → Float → Float → Float → Bounds
cell_of left bottom right top = record { min = record { x = left; y = bottom }; max = record { x = right; y = top } }

-- the box stretched to a point
abbrev pub stretched : Bounds → Point → Bounds
stretched b p = hull b (point_box p)

-- the box of an edge
unfoldable pub edge_box : Edge → Bounds
unfolding hull
edge_box e = hull (point_box e.a) (point_box e.b)

-- ---- `widened`: by 10⁻⁹ of the largest of 1 and the corners' magnitudes
abbrev pub nano : Float
nano = fin false 4835703278458517 (negsuc 81)

-- 2 ^ -31: a box widened by that much or more has the nearest point of every edge that lies in the box
abbrev pub least_margin : Float
least_margin = fin false 1 (negsuc 30)

unfoldable pub scale_of : Bounds → Float
scale_of b = max_of (max_of (max_of (max_of one (abs_of b.min.x)) (abs_of b.min.y)) (abs_of b.max.x)) (abs_of b.max.y)

-- widened by m
abbrev pub widened_by : Float → Bounds → Bounds
widened_by m b = record {
  min = record { x = sub binary64 b.min.x m; y = sub binary64 b.min.y m };
  max = record { x = add binary64 b.max.x m; y = add binary64 b.max.y m };
}

unfoldable pub widened_of : Bounds → Bounds
unfolding scale_of add sub mul
widened_of b = widened_by (mul binary64 nano (scale_of b)) b

-- ---- the gap of a box, as `nearest` has it: how far p is outside lo to hi, of one axis, and the length of both
unfoldable pub gap_along : Float → Float → Float → Float
unfolding sub
gap_along lo hi p = max_of (max_of (sub binary64 lo p) (sub binary64 p hi)) zeroᶠ

unfoldable pub gap_of : Bounds → Point → Float
unfolding gap_along
gap_of b p = hypot_of (gap_along b.min.x b.max.x p.x) (gap_along b.min.y b.max.y p.y)

-- ---- the squared gap, as the searches have it: without a maximum of IEEE 754 and without a root
unfoldable pub out_along : Float → Float → Float → Float
out_along lo hi p = greater zeroᶠ (greater (sub binary64 lo p) (sub binary64 p hi))

unfoldable pub gap_squares_of : Bounds → Point → Float
unfolding out_along
gap_squares_of b p = squares_of (record { x = out_along b.min.x b.max.x p.x; y = out_along b.min.y b.max.y p.y })
