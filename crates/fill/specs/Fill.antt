-- The fill of a cell: boundary.rs's `fill` for lines. The list is clipped at low x, high x, low y and high y, in this order, and `x_dy` summed. Definitions only.
use Rattle.std.specs.Prelude.{Bool, true, false, cond, ◌||◌, List, ℕ, ltb, length, Float}
use Rattle.std.specs.Float.{binary64}
use Rattle.std.specs.Float.Ieee.{add, sub, mul, div}
use Rattle.boundary.specs.declared.Edge.{Edge}
use Rattle.lists.specs.Lists.{total}
use Rattle.clip.specs.declared.HalfPlane.{HalfPlane}
use Rattle.clip.specs.Clip.{clip_of}
use Rattle.boundary.specs.declared.Bounds.{Bounds}
use Rattle.accept.specs.Area.{two}

-- ---- the four clipped lists
-- the half-plane of one side of a cell: of y or else of x, above the low bound or else below the high one
abbrev pub side_of : Bool → Bool → Bounds → HalfPlane
side_of y above c = let p = cond above c.min c.max in record { y = y; above = above; v = cond y p.y p.x }

abbrev pub low_x_of : Bounds → HalfPlane
low_x_of c = record { y = false; above = true; v = c.min.x }

abbrev pub high_x_of : Bounds → HalfPlane
high_x_of c = record { y = false; above = false; v = c.max.x }

abbrev pub low_y_of : Bounds → HalfPlane
low_y_of c = record { y = true; above = true; v = c.min.y }

abbrev pub high_y_of : Bounds → HalfPlane
high_y_of c = record { y = true; above = false; v = c.max.y }

abbrev pub clip1 : List Edge → Bounds → List Edge
clip1 es c = clip_of (low_x_of c) es

abbrev pub clip2 : List Edge → Bounds → List Edge
clip2 es c = clip_of (high_x_of c) (clip1 es c)

abbrev pub clip3 : List Edge → Bounds → List Edge
clip3 es c = clip_of (low_y_of c) (clip2 es c)

abbrev pub clip4 : List Edge → Bounds → List Edge
clip4 es c = clip_of (high_y_of c) (clip3 es c)

-- ---- the fill
-- the integral of x dy along a line
unfoldable pub xdy_of : Edge → Float
xdy_of e = mul binary64 (div binary64 (add binary64 e.a.x e.b.x) two) (sub binary64 e.b.y e.a.y)

unfoldable pub fill_of : List Edge → Bounds → Float
fill_of es c = total xdy_of (clip4 es c)

-- ---- one of the four lists has more pieces than a half holds
abbrev pub longer : ℕ → List Edge → Bool
longer half es = ltb half (length es)

unfoldable pub long_of : ℕ → List Edge → Bounds → Bool
long_of half es c = ((longer half (clip1 es c) || longer half (clip2 es c)) || longer half (clip3 es c)) || longer half (clip4 es c)
