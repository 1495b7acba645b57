-- Worked examples in steps, 1,024 to the µm. S is document 01's, (0,0) (4,0) (4,4) (0,4). Assumes nothing.
use Rattle.std.specs.Prelude.{◌≡◌, refl, true, false, List, [], ◌∷◌, ℕ, ◌*◌, ◌^◌, pos}
use Rattle.lists.specs.Lists.{fold, any, odd_many}
use Rattle.grid.specs.Whole.{PointZ, EdgeZ, edge_z, shoelace_term_z, shoelace_z, cross_z, between_z, on_edge_z, boundary_z, crosses_z, inside_z, location_z}
use Rattle.grid.specs.Distance.{num_z, den_z}

-- (x, y) µm
abbrev point : ℕ → ℕ → PointZ
point x y = record { x = pos (1024 * x); y = pos (1024 * y) }

abbrev S : List EdgeZ
S = edge_z (point 0 0) (point 4 0) ∷ edge_z (point 4 0) (point 4 4) ∷ edge_z (point 4 4) (point 0 4) ∷ edge_z (point 0 4) (point 0 0) ∷ []

-- area 16: half of 32 square µm
area_of_s : shoelace_z S ≡ pos (32 * (1024 * 1024))
unfolding shoelace_z shoelace_term_z fold
area_of_s = refl

-- boundary, boundary, inside, outside
locations_in_s : (location_z S (point 4 2) ≡ 1) × (location_z S (point 0 2) ≡ 1) × (location_z S (point 2 2) ≡ 2) × (location_z S (point 5 5) ≡ 0)
unfolding location_z boundary_z inside_z on_edge_z cross_z between_z crosses_z any odd_many fold
locations_in_s = (refl, refl, refl, refl)

-- the crossing rule on the boundary, as `contains` has it
crossings_of_s : (inside_z S (point 4 2) ≡ false) × (inside_z S (point 0 2) ≡ true) × (inside_z S (point 2 0) ≡ true) × (inside_z S (point 2 4) ≡ false)
unfolding inside_z crosses_z odd_many fold
crossings_of_s = (refl, refl, refl, refl)

-- a slanting edge, either way round: a point on it, beyond its end, left of it, right of it
slant : (on_edge_z (point 1 2) (edge_z (point 0 0) (point 2 4)) ≡ true) × (on_edge_z (point 3 6) (edge_z (point 0 0) (point 2 4)) ≡ false)
    × (crosses_z (point 0 2) (edge_z (point 0 0) (point 2 4)) ≡ true) × (crosses_z (point 2 2) (edge_z (point 0 0) (point 2 4)) ≡ false)
    × (crosses_z (point 0 2) (edge_z (point 2 4) (point 0 0)) ≡ true) × (crosses_z (point 2 2) (edge_z (point 2 4) (point 0 0)) ≡ false)
unfolding on_edge_z cross_z between_z crosses_z
slant = (refl, refl, refl, refl, refl, refl)

-- squared distances from a slanting edge: 2 square µm before its first end, 5 past its second, and 10 ² / 20 beside it
abbrev edge : EdgeZ
edge = edge_z (point 2 1) (point 4 5)

squared_distances : (num_z edge (point 1 0) ≡ pos (2 * 2 ^ 20)) × (den_z edge (point 1 0) ≡ pos 1)
    × (num_z edge (point 5 7) ≡ pos (5 * 2 ^ 20)) × (den_z edge (point 5 7) ≡ pos 1)
    × (num_z edge (point 5 2) ≡ pos (10 * 10 * 2 ^ 40)) × (den_z edge (point 5 2) ≡ pos (20 * 2 ^ 20))
unfolding num_z den_z cross_z
squared_distances = (refl, refl, refl, refl, refl, refl)
