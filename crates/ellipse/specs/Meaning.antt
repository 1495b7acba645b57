-- The nearest point of an ellipse, where tests 10 and 12 (document 01) pass: it is finite, and in the quadrant of the query. Definitions only.
use Rattle.std.specs.Prelude.{◌≡◌, false, ◌||◌, pos, T, Float}
use Rattle.std.specs.Float.{fin, binary64}
use Rattle.std.specs.Float.Ieee.{add, le, eq, fits}
use Rattle.std.specs.Float.Ieee.Scale.{finite}
use Rattle.number.specs.Exact.{zeroᶠ}
use Rattle.number.specs.Signs.{sign_bit, abs_of}
use Rattle.boundary.specs.declared.Point.{Point}
use Rattle.boundary.specs.declared.Distance.{Distance}
use Rattle.boundary.specs.Line.{less_point}
use Rattle.distance.specs.Ellipse.{ellipse_nearest}
use Rattle.ellipse.specs.Ellipse.{axis_fits, least_offset}

-- ---- what is given: numbers of `f64`
-- a semi-axis that passes test 12
pub record SemiAxis (a : Float) : Type 0 where
  pub fits : T (fits binary64 a)
  pub test : T (axis_fits a)

-- the widest that two points of the field are apart along an axis: 2 ^ 21
abbrev pub most_offset : Float
most_offset = fin false 1 (pos 21)

-- a coordinate of point less centre: at most 2 ^ 21 in magnitude, and zero or at least 2 ^ -20
pub record Offset (d : Float) : Type 0 where
  pub fits : T (fits binary64 d)
  pub most : T (le (abs_of d) most_offset)
  pub least : T (eq d zeroᶠ || le least_offset (abs_of d))

-- a point of two such numbers
pub record FitsPoint (p : Point) : Type 0 where
  pub x : T (fits binary64 p.x)
  pub y : T (fits binary64 p.y)

-- ---- what is answered
-- no infinity, and no NaN
pub record FinitePoint (q : Point) : Type 0 where
  pub x : T (finite q.x)
  pub y : T (finite q.y)

-- q is in the quadrant of p: each coordinate has the sign of p's, and a zero has one too
pub record InQuadrant (p q : Point) : Type 0 where
  pub x : sign_bit q.x ≡ sign_bit p.x
  pub y : sign_bit q.y ≡ sign_bit p.y

-- q, the nearest point to p of an ellipse around (0, 0)
pub record QuadrantPoint (p q : Point) : Type 0 where
  pub finite : FinitePoint q
  pub quadrant : InQuadrant p q

-- an answer moved back to the centre
abbrev pub moved_back : Point → Point → Point
moved_back c q = record { x = add binary64 c.x q.x; y = add binary64 c.y q.y }

-- r, the answer for the ellipse with centre c and semi-axes a along x and b along y, and the point p: distance and nearest point.
-- The latter is the nearest point to point less centre, in its quadrant, moved back.
pub record QuadrantAnswer (c : Point) (a b : Float) (p : Point) (r : Distance) : Type 0 where
  pub distance : T (finite r.d)
  pub not_negative : T (le zeroᶠ r.d)
  pub nearest : FinitePoint r.v
  pub moved : r.v ≡ moved_back c (ellipse_nearest a b (less_point p c))
  pub quadrant : InQuadrant (less_point p c) (ellipse_nearest a b (less_point p c))
