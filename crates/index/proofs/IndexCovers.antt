-- What holds of the index of every list of boxes that passes the tests: 511 nodes suffice, and a node's box is around the widened boxes of all items below it. Assumes nothing.
use Rattle.accept.specs.Refusals.{all_passed}
use mathlib.Core.Path.{◌≡◌, refl}
use mathlib.Core.Bool.{Bool, true, false, not, true≢false}
use mathlib.Core.List.{List, ◌++◌}
use Prim.Native.Nat.{ℕ, ◌+◌, ◌≤◌, ◌<◌}
use native.Mathlib.Omega.{arith}
use lib.Dec.{T, leb}
use lib.ListN.{length}
use lib.Ieee.{Float}
use Rattle.boundary.specs.declared.Point.{Point}
use Rattle.boundary.specs.declared.Bounds.{Bounds}
use Rattle.boundary.specs.Boxes.{Around, box_fits, empty_box}
use Rattle.boundary.proofs.AroundLaws.{NumberBox}
use Rattle.boundary.proofs.BoxLaws.{fits_wide}
use Rattle.lists.specs.Lists.{run, times, In}
use Rattle.lists.proofs.RunLaws.{length_run, run_at}
use Rattle.lists.proofs.FoldLaws.{any_at_lem}
use Rattle.lists.proofs.MemberLaws.{times_append, numbers_below}
use Rattle.sorts.specs.Sort.{sort}
use Rattle.sorts.proofs.SortLaws.{times_sort}
use Rattle.boxes.specs.BoxLists.{box_count, box_at, boxes_of, wide_at, centre_of}
use Rattle.tree.specs.Tree.{Tree, leaf, inner, tree_box, hull_of, tree_of, index_of, items_of, EachNode}
use Rattle.tree.proofs.HullLaws.{hull_of_number, hull_of_around, hull_of_within}
use Rattle.tree.proofs.TreeLaws.{left, right, times_halves, tree_induct}
use Rattle.nodes.specs.Layout.{nodes_of}
use Rattle.nodes.proofs.LayoutLaws.{length_below}
use Rattle.index.specs.Answers.{boxes_tested}
use Rattle.index.specs.Buffer.{IndexBuffer, holding, Stands, levels, Filled}
use Rattle.index.proofs.ReadLaws.{holding_stands, tree_levels, tree_filled}
use Rattle.index.proofs.GrowLaws.{boxes_passed, boxes_fit, index_nodes}

-- NODES: 511 suffice
module _ (v : List Float) where
  pub nodes_511 : boxes_tested v ≡ all_passed → length (nodes_of (index_of v)) ≤ 511
  nodes_511 p = let b = boxes_passed v p in let s = b.0 in index_nodes v (omega arith)

-- ---- the boxes of the nodes
-- each box of a list that passes the tests does, and its widened box has no NaN
module _ (v : List Float) (passed : boxes_tested v ≡ all_passed) where
  pub passed_fits : (i : ℕ) → i < box_count v → T (box_fits (box_at v i))
  unfolding boxes_of
  passed_fits i h =
      let e = any_at_lem (λ b. not (box_fits b)) empty_box (boxes_of v) i (rw (length_run (box_at v) 0 (box_count v)) h) (boxes_fit v passed) in
      let z : 0 + i ≡ i = omega arith in
      holds (box_fits (box_at v i)) (rw (run_at (box_at v) 0 (box_count v) i empty_box h, z) at e)
    where
      holds : (b : Bool) → not b ≡ false → T b
      holds true e = tt
      holds false e = absurd (true≢false e)

  pub passed_number : (i : ℕ) → i < box_count v → NumberBox (wide_at v i)
  unfolding wide_at
  passed_number i h = fits_wide (box_at v i) (passed_fits i h)

  -- an item of the index is the number of a box
  pub listed_number : (i : ℕ) → In i (run (λ n. n) 0 (box_count v)) → NumberBox (wide_at v i)
  listed_number i h = passed_number i (numbers_below (box_count v) i h)

-- a node's box is around the boxes of all items below it
module _ (W : ℕ → Bounds) (C : ℕ → Point) where
  abbrev Holds : Bounds → List ℕ → Type 0
  Holds b is = (i : ℕ) → In i is → Around b (W i)

  tree_holds : (is : List ℕ) → ((i : ℕ) → In i is → NumberBox (W i)) → EachNode Holds (tree_of W C is)
  unfolding EachNode items_of
  tree_holds is N = (tree_induct W C (λ is t. ((i : ℕ) → In i is → NumberBox (W i)) → ((i : ℕ) → times i (items_of t) ≡ times i is) × EachNode Holds t) base step (length is) is (omega arith) N).1
    where
      base : (is : List ℕ) → length is ≤ 4 → ((i : ℕ) → In i is → NumberBox (W i)) → ((i : ℕ) → times i (items_of (leaf (hull_of W is) (sort leb is))) ≡ times i is) × EachNode Holds (leaf (hull_of W is) (sort leb is))
      base is h N = (λ i. times_sort leb i is, λ i k. hull_of_around W is N i (rw (times_sort leb i is) at k))

      step : (is : List ℕ) (l r : Tree) → 4 < length is
          → (((i : ℕ) → In i (left C is) → NumberBox (W i)) → ((i : ℕ) → times i (items_of l) ≡ times i (left C is)) × EachNode Holds l)
          → (((i : ℕ) → In i (right C is) → NumberBox (W i)) → ((i : ℕ) → times i (items_of r) ≡ times i (right C is)) × EachNode Holds r)
          → ((i : ℕ) → In i is → NumberBox (W i)) → ((i : ℕ) → times i (items_of (inner (hull_of W is) l r)) ≡ times i is) × EachNode Holds (inner (hull_of W is) l r)
      step is l r h p q N =
          let P = p (λ i k. N i (let z = times_halves C is i in omega arith)) in
          let Q = q (λ i k. N i (let z = times_halves C is i in omega arith)) in
          let all : (i : ℕ) → times i (items_of l ++ items_of r) ≡ times i is = λ i. let a = times_append i (items_of l) (items_of r) in let b = times_halves C is i in let c = P.0 i in let d = Q.0 i in omega arith in
          (all, (λ i k. hull_of_around W is N i (rw (all i) at k), P.1, Q.1))

-- ---- a child's box lies in its parent's, and no box has a NaN
unfoldable pub Nested : Tree → Type 0
Nested (leaf b is) = NumberBox b
Nested (inner b l r) = NumberBox b × Around b (tree_box l) × Around b (tree_box r) × Nested l × Nested r

tree_nested : (W : ℕ → Bounds) (C : ℕ → Point) (is : List ℕ) → ((i : ℕ) → In i is → NumberBox (W i)) → Nested (tree_of W C is)
unfolding Nested
tree_nested W C is N = (tree_induct W C (λ is t. ((i : ℕ) → In i is → NumberBox (W i)) → (tree_box t ≡ hull_of W is) × Nested t) (λ is _ N. (refl, hull_of_number W is N)) step (length is) is (omega arith) N).1
  where
    step : (is : List ℕ) (l r : Tree) → 4 < length is → (((i : ℕ) → In i (left C is) → NumberBox (W i)) → (tree_box l ≡ hull_of W (left C is)) × Nested l)
        → (((i : ℕ) → In i (right C is) → NumberBox (W i)) → (tree_box r ≡ hull_of W (right C is)) × Nested r)
        → ((i : ℕ) → In i is → NumberBox (W i)) → (tree_box (inner (hull_of W is) l r) ≡ hull_of W is) × Nested (inner (hull_of W is) l r)
    step is l r h p q N =
        let one : (i : ℕ) → In i (left C is) → In i is = λ i k. let z = times_halves C is i in omega arith in
        let two : (i : ℕ) → In i (right C is) → In i is = λ i k. let z = times_halves C is i in omega arith in
        let P = p (λ i k. N i (one i k)) in
        let Q = q (λ i k. N i (two i k)) in
        let b = hull_of W is in
        let B = hull_of_number W is N in
        (refl, (B, rw P.0 (hull_of_within W b B (left C is) (λ i k. hull_of_around W is N i (one i k))), rw Q.0 (hull_of_within W b B (right C is) (λ i k. hull_of_around W is N i (two i k))), P.1, Q.1))

pub nested : (v : List Float) → boxes_tested v ≡ all_passed → Nested (index_of v)
unfolding index_of
nested v p = tree_nested (wide_at v) (λ i. centre_of (wide_at v i)) (run (λ n. n) 0 (box_count v)) (listed_number v p)

-- BOXES: a node's box is around the widened boxes of all items below it
pub node_boxes : (v : List Float) → boxes_tested v ≡ all_passed → EachNode (λ b is. (i : ℕ) → In i is → Around b (wide_at v i)) (index_of v)
unfolding index_of
node_boxes v p = tree_holds (wide_at v) (λ i. centre_of (wide_at v i)) (run (λ n. n) 0 (box_count v)) (listed_number v p)

-- ---- the index as a tree that stands in a buffer
-- LEVELS: nine at most
pub index_levels : (v : List Float) → boxes_tested v ≡ all_passed → levels (index_of v) ≤ 9
unfolding index_of
index_levels v p =
    let s = (boxes_passed v p).0 in
    let n = length_run (λ n. n) 0 (box_count v) in
    tree_levels (wide_at v) (λ i. centre_of (wide_at v i)) 8 (run (λ n. n) 0 (box_count v)) (omega arith)

-- LEAVES: where there are boxes, each has an item
pub index_filled : (v : List Float) → boxes_tested v ≡ all_passed → (length v ≡ 0 → ⊥) → Filled (index_of v)
unfolding index_of
index_filled v p some =
    let w = (boxes_passed v p).1 in
    let n = length_run (λ n. n) 0 (box_count v) in
    let m : 0 < length v = pos_of (length v) some in
    tree_filled (wide_at v) (λ i. centre_of (wide_at v i)) (run (λ n. n) 0 (box_count v)) (omega arith)
  where
    pos_of : (n : ℕ) → (n ≡ 0 → ⊥) → 0 < n
    pos_of n h = omega arith

-- what building leaves is the index, from node 0 on
pub index_stands : (v : List Float) (B : IndexBuffer) → boxes_tested v ≡ all_passed → (length v ≡ 0 → ⊥) → Stands (holding (index_of v) B) 0 (index_of v)
unfolding nodes_of
index_stands v B p some =
    let n = nodes_511 v p in
    let k = length_below (index_of v) 0 1 in
    holding_stands (index_of v) B (index_filled v p some) (omega arith)
