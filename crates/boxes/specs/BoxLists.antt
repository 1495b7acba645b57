-- The boxes of a list, and their centres (document 01, index.rs). Definitions only.
use mathlib.Core.List.{List, [], ◌∷◌, flat_map}
use Rattle.std.specs.Prelude.{ℕ, ◌+◌, ◌*◌, ◌/◌, length, get_or, Float}
use Rattle.std.proofs.lemmas.List.Edits.{sets}
use Rattle.std.specs.Float.{nan}
use Rattle.std.specs.Float.Ieee.{add, mul}
use Rattle.boundary.specs.declared.Point.{Point}
use Rattle.boundary.specs.declared.Bounds.{Bounds}
use Rattle.boundary.specs.Boxes.{widened_of}
use Rattle.boundary.specs.Line.{middle}
use Rattle.lists.specs.Lists.{run}
use Rattle.sorts.specs.Keys.{key_in}

-- how many boxes the numbers of v are
abbrev pub box_count : List Float → ℕ
box_count v = length v / 4

-- box i: min x, min y, max x, max y
unfoldable pub box_at : List Float → ℕ → Bounds
box_at v i = record {
  min = record { x = get_or v (4 * i) nan; y = get_or v (4 * i + 1) nan };
  max = record { x = get_or v (4 * i + 2) nan; y = get_or v (4 * i + 3) nan };
}

-- the four numbers of a box
abbrev pub box_numbers : Bounds → List Float
box_numbers b = b.min.x ∷ b.min.y ∷ b.max.x ∷ b.max.y ∷ []

-- all boxes
unfoldable pub boxes_of : List Float → List Bounds
unfolding run box_at
boxes_of v = run (box_at v) 0 (box_count v)

-- box i, widened
unfoldable pub wide_at : List Float → ℕ → Bounds
wide_at v i = widened_of (box_at v i)

-- a box's centre
unfoldable pub centre_of : Bounds → Point
unfolding add mul
centre_of b = record { x = middle b.min.x b.max.x; y = middle b.min.y b.max.y }

-- point i of those whose coordinates stand in two lists
abbrev pub point_in : List Float → List Float → ℕ → Point
point_in xs ys i = record { x = key_in xs i; y = key_in ys i }

-- ---- what widening a list's boxes puts into three lists
pub record WideLists : Type 0 where
  pub wide : List Float
  pub xs : List Float
  pub ys : List Float

-- the boxes of v, widened, and the coordinates of their centres, from the front of the lists on
unfoldable pub widened_in : List Float → List Float → List Float → List Float → WideLists
unfolding run
widened_in v W X Y = record {
  wide = sets W 0 (flat_map box_numbers (run (wide_at v) 0 (box_count v)));
  xs = sets X 0 (run (λ i. (centre_of (wide_at v i)).x) 0 (box_count v));
  ys = sets Y 0 (run (λ i. (centre_of (wide_at v i)).y) 0 (box_count v));
}
