-- An outline's containment, location and bounds, over its edges or vertices (document 01, geometry.rs). Definitions only.
use Rattle.std.specs.Prelude.{Bool, true, false, ◌&&◌, cond, List, ℕ, ◌-◌, eqb, Float}
use Rattle.std.specs.Float.{inf, binary64}
use Rattle.std.specs.Float.Ieee.{unlike, add, sub, mul, div, lt, le, eq}
use Rattle.number.specs.Signs.{min_of, max_of}
use Rattle.number.specs.Exact.{zeroᶠ}
use Rattle.boundary.specs.declared.Point.{Point}
use Rattle.boundary.specs.declared.Edge.{Edge}
use Rattle.boundary.specs.declared.Bounds.{Bounds}
use Rattle.geometry.specs.declared.Location.{Location}
use Rattle.geometry.specs.declared.Location.TheVariants.{Outside, Boundary, Inside}
use Rattle.boundary.specs.Boxes.{lesser, greater, hull, empty_box, stretched}
use Rattle.lists.specs.Lists.{run, fold, any, odd_many}
use Rattle.boundary.specs.Outline.{count, vertex_at}

-- ---- containment: an edge counts when exactly one end has y above the point and the point's x is strictly below the crossing
unfoldable pub crosses_of : Point → Edge → Bool
unfolding add sub mul div lt
crosses_of p e =
    unlike (lt p.y e.b.y) (lt p.y e.a.y)
    && lt p.x (add binary64 (div binary64 (mul binary64 (sub binary64 e.a.x e.b.x) (sub binary64 p.y e.b.y)) (sub binary64 e.a.y e.b.y)) e.b.x)

unfoldable pub contains_of : List Edge → Point → Bool
unfolding odd_many crosses_of
contains_of es p = odd_many (crosses_of p) es

-- the same in the Rust's order: each vertex with the one before it, the first with the last
abbrev pub previous : ℕ → ℕ → ℕ
previous n i = cond (eqb i 0) (n - 1) (i - 1)

abbrev pub edge_into : List Float → ℕ → Edge
edge_into v i = record { a = vertex_at v (previous (count v) i); b = vertex_at v i }

unfoldable pub contains_rust : List Float → Point → Bool
unfolding odd_many crosses_of run
contains_rust v p = odd_many (crosses_of p) (run (edge_into v) 0 (count v))

-- ---- location: 0 outside, 1 boundary, 2 inside, the boundary tested first
abbrev pub place : Location → ℕ
place Outside = 0
place Boundary = 1
place Inside = 2

-- q lies between a and b, ends included
abbrev pub between_ends : Float → Float → Float → Bool
between_ends a b q = le (lesser a b) q && le q (greater a b)

-- (b - a) × (p - a)
abbrev pub cross_of : Edge → Point → Float
cross_of e p =
    sub binary64 (mul binary64 (sub binary64 e.b.x e.a.x) (sub binary64 p.y e.a.y))
    (mul binary64 (sub binary64 e.b.y e.a.y) (sub binary64 p.x e.a.x))

-- the point lies within the box of the edge's two ends, and the cross product works out to zero
unfoldable pub on_edge : Point → Edge → Bool
unfolding sub mul lt le eq
on_edge p e = eq (cross_of e p) zeroᶠ && (between_ends e.a.x e.b.x p.x && between_ends e.a.y e.b.y p.y)

unfoldable pub locate_of : List Edge → Point → ℕ
unfolding any on_edge contains_of
locate_of es p = cond (any (on_edge p) es) 1 (cond (contains_of es p) 2 0)

-- the same in the Rust's own operations: the box of the edge's two ends is by IEEE 754's minimum and maximum
abbrev pub between_rust : Float → Float → Float → Bool
between_rust a b q = le (min_of a b) q && le q (max_of a b)

unfoldable pub on_edge_rust : Point → Edge → Bool
unfolding sub mul le eq
on_edge_rust p e = eq (cross_of e p) zeroᶠ && (between_rust e.a.x e.b.x p.x && between_rust e.a.y e.b.y p.y)

unfoldable pub locate_rust : List Edge → Point → ℕ
unfolding any on_edge_rust contains_of
locate_rust es p = cond (any (on_edge_rust p) es) 1 (cond (contains_of es p) 2 0)

-- ---- bounds: the box of all vertices
unfoldable pub bounds_of : List Point → Bounds
unfolding fold hull
bounds_of ps = fold stretched empty_box ps

-- the same in the Rust's own operations: a fold over the vertices for each corner number, from +infinity by IEEE 754's minimum or from -infinity by its maximum
abbrev pub fold_by : (Float → Float → Float) → (Point → Float) → Float → List Point → Float
fold_by f get start ps = fold (λ m p. f m (get p)) start ps

unfoldable pub bounds_rust : List Point → Bounds
unfolding fold
bounds_rust ps = record {
  min = record { x = fold_by min_of (λ p. p.x) (inf false) ps; y = fold_by min_of (λ p. p.y) (inf false) ps };
  max = record { x = fold_by max_of (λ p. p.x) (inf true) ps; y = fold_by max_of (λ p. p.y) (inf true) ps };
}
