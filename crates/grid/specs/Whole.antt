-- *Whole-number geometry* (document 01), over a list of edges with whole coordinates. Nothing is rounded. Definitions only.
use Rattle.std.specs.Prelude.{Bool, ◌&&◌, ◌||◌, cond, List, ℕ, ℤ, pos, ◌+ℤ◌, ◌-ℤ◌, ◌*ℤ◌}
use Rattle.std.specs.Int.Signed.{lt_z, le_z}
use Rattle.std.specs.Float.Ieee.{unlike}
use Rattle.number.specs.Exact.{eq_z}
use Rattle.lists.specs.Lists.{fold, any, odd_many}

pub record PointZ : Type 0 where
  pub x : ℤ
  pub y : ℤ

pub record EdgeZ : Type 0 where
  pub a : PointZ
  pub b : PointZ

-- the edge from a to b
abbrev pub edge_z : PointZ → PointZ → EdgeZ
edge_z a b = record { a = a; b = b }

-- ---- area: half the exact shoelace sum
unfoldable pub shoelace_term_z : EdgeZ → ℤ
shoelace_term_z e = e.a.x *ℤ e.b.y -ℤ e.b.x *ℤ e.a.y

-- the sum; the area is half of it
unfoldable pub shoelace_z : List EdgeZ → ℤ
unfolding fold shoelace_term_z
shoelace_z es = fold (λ s e. s +ℤ shoelace_term_z e) (pos 0) es

-- ---- a point on a closed edge is on the boundary
-- (b - a) × (p - a), which is zero where p is on the line of the edge
unfoldable pub cross_z : EdgeZ → PointZ → ℤ
cross_z e p = (e.b.x -ℤ e.a.x) *ℤ (p.y -ℤ e.a.y) -ℤ (e.b.y -ℤ e.a.y) *ℤ (p.x -ℤ e.a.x)

-- q lies between a and b, ends included
unfoldable pub between_z : ℤ → ℤ → ℤ → Bool
between_z a b q = (le_z a q && le_z q b) || (le_z b q && le_z q a)

unfoldable pub on_edge_z : PointZ → EdgeZ → Bool
unfolding cross_z between_z
on_edge_z p e = eq_z (cross_z e p) (pos 0) && (between_z e.a.x e.b.x p.x && between_z e.a.y e.b.y p.y)

unfoldable pub boundary_z : List EdgeZ → PointZ → Bool
unfolding any on_edge_z
boundary_z es p = any (on_edge_z p) es

-- ---- any other is inside where a ray to its right crosses an odd number of edges
-- The crossing rule of `contains`: exactly one end has y above the point, and the point's x is strictly below the crossing.
-- With d = a.y - b.y, which is not zero then, that is p.x < (a.x - b.x) (p.y - b.y) / d + b.x. Both sides less b.x, times d × d:
unfoldable pub crosses_z : PointZ → EdgeZ → Bool
crosses_z p e =
    let d = e.a.y -ℤ e.b.y in
    unlike (lt_z p.y e.b.y) (lt_z p.y e.a.y)
    && lt_z ((p.x -ℤ e.b.x) *ℤ (d *ℤ d)) ((e.a.x -ℤ e.b.x) *ℤ (p.y -ℤ e.b.y) *ℤ d)

unfoldable pub inside_z : List EdgeZ → PointZ → Bool
unfolding odd_many crosses_z
inside_z es p = odd_many (crosses_z p) es

-- ---- location: 0 outside, 1 boundary, 2 inside
unfoldable pub location_z : List EdgeZ → PointZ → ℕ
unfolding boundary_z inside_z
location_z es p = cond (boundary_z es p) 1 (cond (inside_z es p) 2 0)
