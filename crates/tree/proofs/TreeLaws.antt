-- The tree by its first split, and its items: the list's, each as often. Assumes nothing.
use mathlib.Core.Path.{◌≡◌, refl, ◌∙◌}
use mathlib.Core.Bool.{Bool, true, false}
use mathlib.Core.List.{List}
use Prim.Native.Nat.{ℕ, zero, suc, ◌+◌, ◌/◌, ◌≤◌, ◌<◌}
use native.Mathlib.Omega.{arith}
use lib.Dec.{leb, ltb}
use lib.ListN.{length, take, drop, length-drop, length-append}
use lib.Seq.{length-take-le}
use lib.Ieee.{Float}
use borrow.Author.Tests.{lt-ltb, le-ltb, ltb-true, ltb-false}
use Rattle.boundary.specs.declared.Point.{Point}
use Rattle.boundary.specs.declared.Bounds.{Bounds}
use Rattle.lists.specs.Lists.{run, times}
use Rattle.lists.proofs.MemberLaws.{times_append, times_parts, times_past, times_within}
use Rattle.sorts.specs.Sort.{sort}
use Rattle.sorts.specs.Keys.{precedes}
use Rattle.sorts.proofs.SortLaws.{length_sort, times_sort}
use Rattle.sorts.proofs.PartLaws.{ascend_again, goes_again}
use Rattle.boxes.specs.BoxLists.{box_count, wide_at, centre_of}
use Rattle.tree.specs.Tree.{Tree, leaf, inner, hull_of, spread_of, along_y, centre_along, ordered, tree_on, tree_of, index_of, items_of}

module _ (C : ℕ → Point) (is : List ℕ) where
  pub length_ordered : length (ordered C is) ≡ length is
  unfolding ordered
  length_ordered = length_sort (precedes (centre_along (along_y C is) C)) is

  -- the two halves of the items
  abbrev pub left : List ℕ
  left = take (length is / 2) (ordered C is)

  abbrev pub right : List ℕ
  right = drop (length is / 2) (ordered C is)

  pub length_left : length left ≡ length is / 2
  length_left = length-take-le (length is / 2) (ordered C is) (let e = length_ordered in omega arith)

  pub length_right : length right + length is / 2 ≡ length is
  length_right = let e = length_ordered in let d = length-drop (length is / 2) (ordered C is) in omega arith

  -- each number occurs in the halves as often as in the whole
  pub times_halves : (i : ℕ) → times i left + times i right ≡ times i is
  unfolding ordered
  times_halves i = times_parts i (length is / 2) (ordered C is) ∙ times_sort (precedes (centre_along (along_y C is) C)) i is

module _ (W : ℕ → Bounds) (C : ℕ → Point) where
  pub tree_leaf : (f : ℕ) (is : List ℕ) → length is ≤ 4 → tree_on f W C is ≡ leaf (hull_of W is) (sort leb is)
  unfolding tree_on
  tree_leaf zero is h = refl
  tree_leaf (suc f) is h = rw (le-ltb 4 (length is) h)

  tree_inner : (f : ℕ) (is : List ℕ) → 4 < length is → tree_on (suc f) W C is ≡ inner (hull_of W is) (tree_on f W C (left C is)) (tree_on f W C (right C is))
  unfolding tree_on
  tree_inner f is h = rw (lt-ltb 4 (length is) h)

  -- more splits than there are items change nothing
  tree_same : (f g : ℕ) (is : List ℕ) → length is ≤ f → length is ≤ g → tree_on f W C is ≡ tree_on g W C is
  tree_same zero g is h k = tree_leaf zero is (omega arith) ∙ rw (tree_leaf g is (omega arith))
  tree_same (suc f) zero is h k = tree_leaf (suc f) is (omega arith) ∙ rw (tree_leaf zero is (omega arith))
  tree_same (suc f) (suc g) is h k = go (ltb 4 (length is)) refl (tree_same f g (left C is)) (tree_same f g (right C is))
    where
      go : (b : Bool) → ltb 4 (length is) ≡ b
          → (length (left C is) ≤ f → length (left C is) ≤ g → tree_on f W C (left C is) ≡ tree_on g W C (left C is))
          → (length (right C is) ≤ f → length (right C is) ≤ g → tree_on f W C (right C is) ≡ tree_on g W C (right C is))
          → tree_on (suc f) W C is ≡ tree_on (suc g) W C is
      go false e l r = rw (tree_leaf (suc f) is (ltb-false 4 (length is) e), tree_leaf (suc g) is (ltb-false 4 (length is) e))
      go true e l r =
          let n : 4 < length is = ltb-true 4 (length is) e in
          let a = length_left C is in
          let b = length_right C is in
          rw (tree_inner f is n, tree_inner g is n, l (omega arith) (omega arith), r (omega arith) (omega arith))

  -- a tree of more than four items is its two halves' trees
  pub tree_split : (is : List ℕ) → 4 < length is → tree_of W C is ≡ inner (hull_of W is) (tree_of W C (left C is)) (tree_of W C (right C is))
  tree_split is n =
      let a = length_left C is in
      let b = length_right C is in
      tree_same (length is) (suc (length is)) is (omega arith) (omega arith) ∙ tree_inner (length is) is n
      ∙ rw (tree_same (length is) (length (left C is)) (left C is) (omega arith) (omega arith), tree_same (length is) (length (right C is)) (right C is) (omega arith) (omega arith))

  -- the order in which the items stand does not matter
  hull_sorted : (g : ℕ → ℕ → Bool) (is : List ℕ) → hull_of W (sort g is) ≡ hull_of W is
  unfolding hull_of
  hull_sorted g is = rw (ascend_again g is)

  along_sorted : (g : ℕ → ℕ → Bool) (is : List ℕ) → along_y C (sort g is) ≡ along_y C is
  unfolding along_y spread_of
  along_sorted g is = rw (ascend_again g is)

  ordered_sorted : (g : ℕ → ℕ → Bool) (is : List ℕ) → ordered C (sort g is) ≡ ordered C is
  unfolding ordered
  ordered_sorted g is = rw (along_sorted g is) (goes_again (centre_along (along_y C is) C) g is)

  pub tree_sorted : (g : ℕ → ℕ → Bool) (is : List ℕ) → tree_of W C (sort g is) ≡ tree_of W C is
  tree_sorted g is = go (ltb 4 (length is)) refl
    where
      go : (b : Bool) → ltb 4 (length is) ≡ b → tree_of W C (sort g is) ≡ tree_of W C is
      go false e =
          let s : length is ≤ 4 = ltb-false 4 (length is) e in
          let n = length_sort g is in
          tree_leaf (length (sort g is)) (sort g is) (omega arith) ∙ rw (tree_leaf (length is) is s, hull_sorted g is, ascend_again g is)
      go true e =
          let s : 4 < length is = ltb-true 4 (length is) e in
          let n = length_sort g is in
          tree_split (sort g is) (omega arith) ∙ rw (tree_split is s, hull_sorted g is, n, ordered_sorted g is)

  -- what holds of every leaf, and of an inner tree where it holds of both halves
  pub tree_induct : (P : List ℕ → Tree → Type 0) → ((is : List ℕ) → length is ≤ 4 → P is (leaf (hull_of W is) (sort leb is)))
      → ((is : List ℕ) (l r : Tree) → 4 < length is → P (left C is) l → P (right C is) r → P is (inner (hull_of W is) l r))
      → (n : ℕ) (is : List ℕ) → length is ≤ n → P is (tree_of W C is)
  tree_induct P base step zero is h = rw (tree_leaf (length is) is (omega arith)) (base is (omega arith))
  tree_induct P base step (suc n) is h = go (ltb 4 (length is)) refl (tree_induct P base step n (left C is)) (tree_induct P base step n (right C is))
    where
      go : (b : Bool) → ltb 4 (length is) ≡ b → (length (left C is) ≤ n → P (left C is) (tree_of W C (left C is))) → (length (right C is) ≤ n → P (right C is) (tree_of W C (right C is))) → P is (tree_of W C is)
      go false e l r = let s : length is ≤ 4 = ltb-false 4 (length is) e in rw (tree_leaf (length is) is s) (base is s)
      go true e l r =
          let s : 4 < length is = ltb-true 4 (length is) e in
          let a = length_left C is in
          let b = length_right C is in
          rw (tree_split is s) (step is (tree_of W C (left C is)) (tree_of W C (right C is)) s (l (omega arith)) (r (omega arith)))

  -- ---- a tree's items are its list's
  pub length_items : (is : List ℕ) → length (items_of (tree_of W C is)) ≡ length is
  unfolding items_of
  length_items is = tree_induct (λ is t. length (items_of t) ≡ length is) (λ is h. length_sort leb is)
      (λ is l r h p q. let a = length_left C is in let b = length_right C is in let s = length-append (items_of l) (items_of r) in omega arith) (length is) is (omega arith)

-- each as often
module _ (W : ℕ → Bounds) (C : ℕ → Point) (i : ℕ) where
  pub items_times : (is : List ℕ) → times i (items_of (tree_of W C is)) ≡ times i is
  unfolding items_of
  items_times is = tree_induct W C (λ is t. times i (items_of t) ≡ times i is) (λ is h. times_sort leb i is)
      (λ is l r h p q. let a = times_append i (items_of l) (items_of r) in let b = times_halves C is i in omega arith) (length is) is (omega arith)

-- ITEMS: every number of a box occurs once in the items of the index, and no other number does
module _ (v : List Float) where
  pub items_once : (i : ℕ) → (i < box_count v → times i (items_of (index_of v)) ≡ 1) × (box_count v ≤ i → times i (items_of (index_of v)) ≡ 0)
  unfolding index_of
  items_once i =
      let e = items_times (wide_at v) (λ i. centre_of (wide_at v i)) i (run (λ n. n) 0 (box_count v)) in
      (λ h. e ∙ times_within i 0 (box_count v) (omega arith) (omega arith), λ h. e ∙ times_past i 0 (box_count v) (omega arith))
