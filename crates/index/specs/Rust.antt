-- The trees that the Rust's `build` gives, in the Rust's own words (document 01, index.rs). Definitions only.
use Rattle.std.specs.Prelude.{◌≡◌, List, ℕ, ◌/◌, ◌≤◌, ◌<◌, leb, length, take, drop, Ok, Float}
use Rattle.boundary.specs.declared.Point.{Point}
use Rattle.boundary.specs.declared.Bounds.{Bounds}
use Rattle.boundary.specs.Boxes.{SameBox, hull_ieee}
use Rattle.lists.specs.Lists.{run}
use Rattle.sorts.specs.Keys.{precedes}
use Rattle.sorts.specs.Sort.{sort, Selected}
use Rattle.boxes.specs.BoxLists.{box_count, wide_at, centre_of}
use Rattle.tree.specs.Tree.{Tree, leaf, inner, hull_by, along_y_by, centre_along, index_of}
use Rattle.index.specs.Buffer.{IndexBuffer, holding}
use Rattle.index.specs.Answers.{size_of, build_outcome}

-- ---- `build`
-- where entries are parted: half the count, rounded down
abbrev pub mid_of : List ℕ → ℕ
mid_of is = length is / 2

-- the tree is one that `build` may give over the entries as they stand: W gives each entry's widened box, and C its centre.
-- Boxes are worked out by IEEE 754's minimum and maximum. At most four are a leaf with the entries in this order.
-- More are parted by `select_nth_unstable_by`, and each part is built over as it then stands
pub data Builds (W : ℕ → Bounds) (C : ℕ → Point) : List ℕ → Tree → Type 0 where
  few : {is : List ℕ} → length is ≤ 4 → Builds W C is (leaf (hull_by hull_ieee W is) is)
  many : {is ys : List ℕ} {l r : Tree} → 4 < length is → Selected (precedes (centre_along (along_y_by hull_ieee C is) C)) (mid_of is) is ys
      → Builds W C (take (mid_of is) ys) l → Builds W C (drop (mid_of is) ys) r → Builds W C is (inner (hull_by hull_ieee W is) l r)

-- a tree that it may give over them
pub record BuiltTree (W : ℕ → Bounds) (C : ℕ → Point) (is : List ℕ) : Type 0 where
  pub tree : Tree
  pub builds : Builds W C is tree

-- the tree is one that `Index::new` may give over a list of boxes: the entries are the boxes' numbers, each with its widened box and the centre of that
abbrev pub BuildsIndex : List Float → Tree → Type 0
BuildsIndex v t = Builds (wide_at v) (λ i. centre_of (wide_at v i)) (run (λ i. i) 0 (box_count v)) t

-- ---- what the demand leaves open
-- the tree with each leaf's items in ascending order
unfoldable pub ascended : Tree → Tree
unfolding sort
ascended (leaf b is) = leaf b (sort leb is)
ascended (inner b l r) = inner b (ascended l) (ascended r)

-- the same tree but for the signs of zeros in its boxes
pub data SameTree : Tree → Tree → Type 0 where
  same_leaf : {b c : Bounds} {is : List ℕ} → SameBox b c → SameTree (leaf b is) (leaf c is)
  same_inner : {b c : Bounds} {l r m s : Tree} → SameBox b c → SameTree l m → SameTree r s → SameTree (inner b l r) (inner c m s)

-- ---- what an accepted call that builds over the boxes v in the buffer B gives, beside the Rust
-- it answers how many nodes and items the index has, and leaves the index in the buffer. Each tree that the Rust may give
-- is the index, once each leaf's items ascend, but for the signs of zeros in boxes; and there is such a tree
pub record BuiltAsRust (v : List Float) (B : IndexBuffer) : Type 0 where
  pub answer : (build_outcome v B).answer ≡ Ok (size_of (index_of v))
  pub lent : (build_outcome v B).lent ≡ holding (index_of v) B
  pub same : (t : Tree) → BuildsIndex v t → SameTree (ascended t) (index_of v)
  pub some : (t : Tree) × BuildsIndex v t
