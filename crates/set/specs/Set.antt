-- A *set* (document 01) is a list of outlines. A call is lent it as two lists: the outlines' vertices one after the other, and each outline's vertex count. Definitions only.
use Rattle.std.specs.Prelude.{◌≡◌, false, ℕ, zero, suc, ◌+◌, ◌*◌, ◌%◌, ◌≤◌, ◌<◌, length, get_or, take, drop, Float}
use mathlib.Core.List.{List, [], flat_map}
use Rattle.number.specs.Exact.{Doubles}
use Rattle.boundary.specs.declared.Bounds.{Bounds}
use Rattle.lists.specs.Lists.{run, any}
use Rattle.boundary.specs.Outline.{count, vertices}
use Rattle.accept.specs.Refusals.{outside_field}
use Rattle.geometry.specs.Polygon.{bounds_of}
use Rattle.boxes.specs.BoxLists.{box_numbers}

-- an outline: x and y of each vertex, one vertex after the other
abbrev pub Outline : Type 0
Outline = List Float

-- ---- the set that the lists v and cs are
-- how many vertices stand before outline k
unfoldable pub start_of : List ℕ → ℕ → ℕ
start_of cs zero = 0
start_of cs (suc k) = start_of cs k + get_or cs k 0

-- outline k
unfoldable pub outline_at : List Float → List ℕ → ℕ → Outline
unfolding start_of
outline_at v cs k = take (2 * get_or cs k 0) (drop (2 * start_of cs k) v)

-- all outlines
unfoldable pub outlines_of : List Float → List ℕ → List Outline
unfolding run outline_at
outlines_of v cs = run (outline_at v cs) 0 (length cs)

-- ---- a set, however it is lent
-- outline k; past the last there is none
abbrev pub outline_in : List Outline → ℕ → Outline
outline_in os k = get_or os k []

-- an outline's box, and that of outline k
abbrev pub outline_box : Outline → Bounds
outline_box o = bounds_of (vertices o)

abbrev pub set_box : List Outline → ℕ → Bounds
set_box os k = outline_box (outline_in os k)

-- the outlines' boxes, as a list of boxes
unfoldable pub set_boxes : List Outline → List Float
unfolding flat_map bounds_of vertices
set_boxes os = flat_map (λ o. box_numbers (outline_box o)) os

-- ---- what the queries need of a set that passes the tests
-- the counts are the list's, and no outline is empty
pub record Fit (v : List Float) (cs : List ℕ) : Type 0 where
  pub size : length cs ≤ 1024
  pub even : length v % 2 ≡ 0
  pub total : start_of cs (length cs) ≡ count v
  pub few : count v ≤ 65536
  pub least : (k : ℕ) → k < length cs → 3 ≤ get_or cs k 0
  pub most : (k : ℕ) → k < length cs → get_or cs k 0 ≤ 4096

-- there are at most 1,024 outlines, each has vertices, and every number is in the field
pub record Fitting (os : List Outline) : Type 0 where
  pub size : length os ≤ 1024
  pub some : (k : ℕ) → k < length os → 0 < count (outline_in os k)
  pub in_field : any outside_field os ≡ false

-- every number of every outline is an `f64`
abbrev pub DoubleSet : List Outline → Type 0
DoubleSet os = (k : ℕ) → k < length os → Doubles (outline_in os k)
