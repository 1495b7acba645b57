-- An outline (document 01): a list of vertices, x then y. An edge joins two neighbouring vertices, last and first included. Definitions only.
use Rattle.std.specs.Prelude.{Bool, cond, ◌&&◌, List, ℕ, ◌+◌, ◌*◌, ◌/◌, eqb, length, get_or, Float}
use Rattle.std.specs.Float.{nan}
use Rattle.std.specs.Float.Ieee.{eq}
use Rattle.boundary.specs.declared.Point.{Point}
use Rattle.boundary.specs.declared.Edge.{Edge}
use Rattle.lists.specs.Lists.{run}

-- how many vertices the numbers of v are
abbrev pub count : List Float → ℕ
count v = length v / 2

-- vertex i
abbrev pub vertex_at : List Float → ℕ → Point
vertex_at v i = record { x = get_or v (2 * i) nan; y = get_or v (2 * i + 1) nan }

-- two points are equal; zeros of either sign are
abbrev pub same_point : Point → Point → Bool
same_point p q = eq p.x q.x && eq p.y q.y

-- the number of the vertex after vertex i of n: after the last comes the first
abbrev pub after : ℕ → ℕ → ℕ
after n i = cond (eqb (i + 1) n) 0 (i + 1)

-- the edge that leaves vertex i
abbrev pub edge_at : List Float → ℕ → Edge
edge_at v i = record { a = vertex_at v i; b = vertex_at v (after (count v) i) }

unfoldable pub vertices : List Float → List Point
unfolding run
vertices v = run (vertex_at v) 0 (count v)

unfoldable pub edges : List Float → List Edge
unfolding run
edges v = run (edge_at v) 0 (count v)
