-- An outline that lies wholly inside a cell, and clips that keep every line of it whole (document 02, U4). Definitions only.
use Rattle.std.specs.Prelude.{List, ℕ, ◌<◌, Float}
use Rattle.boundary.specs.declared.Edge.{Edge}
use Rattle.boundary.specs.declared.Bounds.{Bounds}
use Rattle.boundary.specs.Boxes.{Inside}
use Rattle.boundary.specs.Outline.{count, vertex_at}
use Rattle.clip.specs.Clip.{KeepsAll}
use Rattle.fill.specs.Fill.{low_x_of, high_x_of, low_y_of, high_y_of, clip1, clip2, clip3}

-- every vertex of the outline lies in the cell, its bounds included
abbrev pub WithinCell : List Float → Bounds → Type 0
WithinCell v c = (i : ℕ) → i < count v → Inside (vertex_at v i) c

-- all four clips of a list keep every line whole and add none
pub record AllHandOn (es : List Edge) (c : Bounds) : Type 0 where
  pub low_x : KeepsAll (low_x_of c) es
  pub high_x : KeepsAll (high_x_of c) (clip1 es c)
  pub low_y : KeepsAll (low_y_of c) (clip2 es c)
  pub high_y : KeepsAll (high_y_of c) (clip3 es c)
