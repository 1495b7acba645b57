-- How the nearest edge is found: an edge whose box, widened, is clearly farther than the nearest point so far is left out. Inner: no export's promise speaks of it. Definitions only.
use Rattle.std.specs.Prelude.{◌≡◌, Bool, false, not, cond, List, ℕ, ◌<◌, ltb, negsuc, Float}
use Rattle.std.specs.Float.{fin, binary64}
use Rattle.std.specs.Float.Ieee.{add, sub, lt}
use Rattle.number.specs.Hypot.{hypot_of, clear_limit}
use Rattle.boundary.specs.declared.Point.{Point}
use Rattle.boundary.specs.declared.Edge.{Edge}
use Rattle.distance.specs.declared.FoundEdge.{FoundEdge}
use Rattle.boundary.specs.Outline.{count, edge_at, edges}
use Rattle.boundary.specs.Line.{less_point, squares_of, foot_of, line_near}
use Rattle.boundary.specs.Boxes.{lesser, greater, out_along}
use Rattle.distance.specs.Nearest.{nearest_of}

-- 2 ^ -20, by which an edge's box is widened
abbrev pub margin : Float
margin = fin false 1 (negsuc 19)

-- 2 ^ -25: in the field no threshold of `signed` is above it
abbrev pub most_threshold : Float
most_threshold = fin false 1 (negsuc 24)

-- how far p is outside the ends a and b, widened, of one axis
unfoldable pub outside : Float → Float → Float → Float
outside a b p = out_along (sub binary64 (lesser a b) margin) (add binary64 (greater a b) margin) p

-- the squared distance of p from the edge's widened box
unfoldable pub gap_squares : Edge → Point → Float
gap_squares e p = squares_of (record { x = outside e.a.x e.b.x p.x; y = outside e.a.y e.b.y p.y })

-- how long p less q is
abbrev pub length_to : Point → Point → Float
length_to p q = hypot_of (sub binary64 p.x q.x) (sub binary64 p.y q.y)

-- edge e, which has the number i, its point nearest to p, and the squared distance from which on an edge is clearly farther
unfoldable pub found_of : Edge → ℕ → Point → FoundEdge
found_of e i p = let q = foot_of e p in record { i = i; q = q; far = clear_limit (squares_of (less_point p q)) }

-- the i-th edge, at the distance c, wins over the j-th, at the distance d: it is nearer, or the first of two that are equally near
abbrev pub edge_wins : ℕ → Float → ℕ → Float → Bool
edge_wins i c j d = cond (ltb i j) (not (lt d c)) (lt c d)

-- f is the edge of the outline v that has its nearest point to p, the first among equals
pub record NearestEdge (v : List Float) (p : Point) (f : FoundEdge) : Type 0 where
  pub edge : f.i < count v
  pub found : f ≡ found_of (edge_at v f.i) f.i p
  pub nearest : line_near (edge_at v f.i) p ≡ nearest_of (edges v) p
