-- The tree over boxes: W gives each item's widened box, and C its centre (document 01, index.rs). Definitions only.
use Rattle.std.specs.Prelude.{Bool, cond, List, ◌++◌, ℕ, zero, suc, ◌/◌, leb, ltb, length, take, drop, Float}
use Rattle.std.specs.Float.{binary64}
use Rattle.std.specs.Float.Ieee.{sub, lt}
use Rattle.boundary.specs.declared.Point.{Point}
use Rattle.boundary.specs.declared.Bounds.{Bounds}
use Rattle.boundary.specs.Boxes.{hull, empty_box, point_box}
use Rattle.lists.specs.Lists.{run, fold}
use Rattle.sorts.specs.Keys.{precedes}
use Rattle.sorts.specs.Sort.{sort, halves}
use Rattle.boxes.specs.BoxLists.{box_count, box_at, wide_at, centre_of, point_in}

-- a leaf with its box and its items, or a box with two children
pub data Tree : Type 0 where
  leaf : Bounds → List ℕ → Tree
  inner : Bounds → Tree → Tree → Tree

-- a tree's own box
abbrev pub tree_box : Tree → Bounds
tree_box (leaf b is) = b
tree_box (inner b l r) = b

-- ---- what is worked out of a node's items, gone through as they stand; `join` gives the box around two boxes
-- the box around the items' boxes
abbrev pub hull_by : (Bounds → Bounds → Bounds) → (ℕ → Bounds) → List ℕ → Bounds
hull_by join W is = fold (λ b i. join b (W i)) empty_box is

-- the box of the items' centres
abbrev pub spread_by : (Bounds → Bounds → Bounds) → (ℕ → Point) → List ℕ → Bounds
spread_by join C is = hull_by join (λ i. point_box (C i)) is

-- whether the centres spread wider along y; x on a tie
abbrev pub along_y_by : (Bounds → Bounds → Bounds) → (ℕ → Point) → List ℕ → Bool
along_y_by join C is = let s = spread_by join C is in lt (sub binary64 s.max.x s.min.x) (sub binary64 s.max.y s.min.y)

-- ---- the same of the items in the order of their numbers
unfoldable pub hull_of : (ℕ → Bounds) → List ℕ → Bounds
unfolding fold hull sort
hull_of W is = hull_by hull W (sort leb is)

unfoldable pub spread_of : (ℕ → Point) → List ℕ → Bounds
unfolding fold hull sort
spread_of C is = spread_by hull C (sort leb is)

unfoldable pub along_y : (ℕ → Point) → List ℕ → Bool
unfolding fold hull sort sub lt
along_y C is = along_y_by hull C (sort leb is)

-- the centre along that axis
abbrev pub centre_along : Bool → (ℕ → Point) → ℕ → Float
centre_along y C i = cond y (C i).y (C i).x

-- the items by centre, then by number
unfoldable pub ordered : (ℕ → Point) → List ℕ → List ℕ
unfolding along_y sort
ordered C is = sort (precedes (centre_along (along_y C is) C)) is

-- the items of a leaf ascend by number; more than four are split, and each half's ascend
unfoldable pub arranged : (ℕ → Point) → List ℕ → List ℕ
unfolding along_y halves sort
arranged C is = cond (ltb 4 (length is)) (halves (precedes (centre_along (along_y C is) C)) (length is / 2) is) (sort leb is)

-- more than four items are split at half the count, rounded down; a leaf's items ascend by number. As many splits as f follow one another at most
unfoldable pub tree_on : ℕ → (ℕ → Bounds) → (ℕ → Point) → List ℕ → Tree
unfolding hull_of ordered sort
tree_on zero W C is = leaf (hull_of W is) (sort leb is)
tree_on (suc f) W C is =
    let l = tree_on f W C (take (length is / 2) (ordered C is)) in
    let r = tree_on f W C (drop (length is / 2) (ordered C is)) in
    cond (ltb 4 (length is)) (inner (hull_of W is) l r) (leaf (hull_of W is) (sort leb is))

-- the tree over the items: the count falls at each split, so as many splits as there are items do
abbrev pub tree_of : (ℕ → Bounds) → (ℕ → Point) → List ℕ → Tree
tree_of W C is = tree_on (length is) W C is

-- the same where the boxes and the centres' coordinates stand in lists
abbrev pub tree_in : List Float → List Float → List Float → List ℕ → Tree
tree_in wide xs ys is = tree_of (box_at wide) (point_in xs ys) is

-- the index of a list of boxes
unfoldable pub index_of : List Float → Tree
unfolding run tree_on wide_at centre_of
index_of v = tree_of (wide_at v) (λ i. centre_of (wide_at v i)) (run (λ i. i) 0 (box_count v))

-- the items, the first child's before the second's
unfoldable pub items_of : Tree → List ℕ
items_of (leaf b is) = is
items_of (inner b l r) = items_of l ++ items_of r

-- what holds of the box and the items of every node: a node's items are those of the leaves below it
unfoldable pub EachNode : (Bounds → List ℕ → Type 0) → Tree → Type 0
unfolding items_of
EachNode P (leaf b is) = P b is
EachNode P (inner b l r) = P b (items_of l ++ items_of r) × EachNode P l × EachNode P r
