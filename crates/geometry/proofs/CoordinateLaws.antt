-- Vertices and their coordinates, x then y: each is told from the other. Assumes nothing.
use mathlib.Core.Path.{◌≡◌, refl, ap, ◌∙◌}
use mathlib.Core.List.{List, [], ◌∷◌}
use Prim.Native.Nat.{◌*◌}
use native.Mathlib.Omega.{arith}
use lib.ListN.{length}
use lib.Ieee.{Float}
use Rattle.lists.specs.Lists.{run}
use Rattle.boundary.specs.declared.Point.{Point}
use Rattle.boundary.specs.Outline.{count, vertices}
use Rattle.boundary.proofs.OutlineLaws.{vertices_more}
use Rattle.geometry.specs.Making.{coordinates_of}

pub length_numbers : (ps : List Point) → length (coordinates_of ps) ≡ 2 * length ps
unfolding coordinates_of
length_numbers [] = refl
length_numbers (p ∷ ps) = let e = length_numbers ps in omega arith

pub vertices_numbers : (ps : List Point) → vertices (coordinates_of ps) ≡ ps
unfolding coordinates_of vertices run
vertices_numbers [] = refl
vertices_numbers (p ∷ ps) = vertices_more p.x p.y (coordinates_of ps) ∙ ap (λ qs. p ∷ qs) (vertices_numbers ps)

pub numbers_vertices : (v : List Float) → length v ≡ 2 * count v → coordinates_of (vertices v) ≡ v
unfolding coordinates_of vertices run
numbers_vertices [] h = refl
numbers_vertices (x ∷ []) h = absurd (omega arith)
numbers_vertices (x ∷ y ∷ v) h = ap coordinates_of (vertices_more x y v) ∙ ap (λ w. x ∷ y ∷ w) (numbers_vertices v (omega arith))
