-- What one call of the build leaves, from what its parts leave. Assumes nothing.
use mathlib.Core.Path.{◌≡◌, refl, ap, ◌∙◌}
use mathlib.Core.List.{List, [], ◌∷◌, ◌++◌, flat_map}
use Prim.Native.Nat.{ℕ, ◌+◌, ◌-◌, ◌*◌, ◌/◌, ◌≤◌, ◌<◌}
use native.Mathlib.Omega.{arith}
use lib.Dec.{leb}
use lib.ListN.{length, take, drop, length-append, length-drop}
use lib.Seq.{sets, length-take-le}
use lib.Ieee.{Float}
use Rattle.boundary.specs.declared.Point.{Point}
use Rattle.boundary.specs.declared.Bounds.{Bounds}
use Rattle.sorts.proofs.Lists.{rest_of, whole_of}
use Rattle.sorts.proofs.SortLaws.{length_sort}
use Rattle.boxes.specs.BoxLists.{box_numbers}
use Rattle.tree.specs.Tree.{inner, hull_of, arranged, tree_of, items_of}
use Rattle.tree.proofs.TreeLaws.{left, right, length_left, tree_leaf, tree_split, tree_sorted, length_items}
use Rattle.tree.proofs.ArrangedLaws.{arranged_leaf, first_half, second_half, length_arranged}
use Rattle.nodes.specs.Layout.{extra, node_of, nodes_below, corners_of, links_of, placed, Settled, Grown}
use Rattle.nodes.proofs.LayoutLaws.{placed_parts}

-- ---- a list whose first m are Y and whose rest becomes Z
module _ (S Y : List ℕ) (m : ℕ) (fit : m ≤ length S) (same : length Y ≡ length (take m S)) where
  first_length : length Y ≡ m
  first_length = same ∙ length-take-le m S fit

  pub rest_length : length (take (length (Y ++ drop m S) - m) (drop m (Y ++ drop m S))) + m ≡ length S
  rest_length = let e = ap length (rest_of S Y m first_length fit) in let d = length-drop m S in omega arith

  pub whole_length : (Z : List ℕ) → length Z ≡ length (take (length (Y ++ drop m S) - m) (drop m (Y ++ drop m S)))
      → length (take m (Y ++ drop m S) ++ (Z ++ drop (length (Y ++ drop m S) - m) (drop m (Y ++ drop m S)))) ≡ length S
  whole_length Z z = let e = ap length (whole_of S Y Z m first_length fit) in let l = length-append Y Z in let f = first_length in let r = rest_length in omega arith

module _ (W : ℕ → Bounds) (P : ℕ → Point) (is : List ℕ) (at node next : ℕ) (C : List Float) (L : List ℕ) where
  -- the node of a leaf, and of a tree that is split
  pub settled_leaf : (C' : List Float) (L' : List ℕ) → length is ≤ 4 → C' ≡ sets C (4 * node) (box_numbers (hull_of W is)) → L' ≡ sets L (2 * node) (at ∷ length is ∷ [])
      → Settled (tree_of W P is) at node next C L C' L'
  unfolding node_of
  settled_leaf C' L' h ec el = rw (tree_leaf W P (length is) is h) (record { corners = ec; links = rw (length_sort leb is) el })

  pub settled_inner : (C' : List Float) (L' : List ℕ) → 4 < length is → C' ≡ sets C (4 * node) (box_numbers (hull_of W is)) → L' ≡ sets L (2 * node) (next ∷ 0 ∷ [])
      → Settled (tree_of W P is) at node next C L C' L'
  unfolding node_of
  settled_inner C' L' h ec el = rw (tree_split W P is h) (record { corners = ec; links = el })

  module _ (C₁ : List Float) (L₁ : List ℕ) (is₁ : List ℕ) (s : Settled (tree_of W P is) at node next C L C₁ L₁) (e : is₁ ≡ arranged P is) where
    pub grown_leaf : length is ≤ 4 → Grown (tree_of W P is) at node next C L next is₁ C₁ L₁
    unfolding node_of placed nodes_below flat_map extra items_of
    grown_leaf h =
        let t = tree_leaf W P (length is) is h in
        rw t (record { free = omega arith; items = e ∙ arranged_leaf P is h; corners = rw t at s.corners; links = rw t at s.links })

    -- the first half's tree, then the second's
    pub grown_inner : (free r : ℕ) (Y Z : List ℕ) (C₂ C₃ : List Float) (L₂ L₃ : List ℕ) → 4 < length is → length Y ≡ length (take (length is / 2) is₁)
        → Grown (tree_of W P (take (length is / 2) is₁)) at next (next + 2) C₁ L₁ free Y C₂ L₂
        → Grown (tree_of W P (take (length (Y ++ drop (length is / 2) is₁) - length is / 2) (drop (length is / 2) (Y ++ drop (length is / 2) is₁)))) (at + length is / 2) (next + 1) free C₂ L₂ r Z C₃ L₃
        → Grown (tree_of W P is) at node next C L r
        (take (length is / 2) (Y ++ drop (length is / 2) is₁) ++ (Z ++ drop (length (Y ++ drop (length is / 2) is₁) - length is / 2) (drop (length is / 2) (Y ++ drop (length is / 2) is₁)))) C₃ L₃
    unfolding extra items_of
    grown_inner free r Y Z C₂ C₃ L₂ L₃ h same first second =
        let m = length is / 2 in
        let f₁ = first_half P is is₁ e h in
        let f₂ = second_half P is is₁ e h in
        let l = tree_of W P (left P is) in
        let k = tree_of W P (right P is) in
        let b = hull_of W is in
        let t : tree_of W P is ≡ inner b l k = tree_split W P is h in
        let n : length is₁ ≡ length is = length_arranged P is is₁ e h in
        let le : m ≤ length is₁ = omega arith in
        let a : length Y ≡ m = same ∙ length-take-le m is₁ le in
        let one : Grown l at next (next + 2) C₁ L₁ free Y C₂ L₂ = rw (f₁, tree_sorted W P leb (left P is)) at first in
        let two : Grown k (at + m) (next + 1) free C₂ L₂ r Z C₃ L₃ = rw (rest_of is₁ Y m a le, f₂, tree_sorted W P leb (right P is)) at second in
        let f : free ≡ next + 2 + extra l = one.free in
        let g : r ≡ free + extra k = two.free in
        let q : at + m ≡ at + length (items_of l) = let u = length_items W P (left P is) in let v = length_left P is in omega arith in
        rw (t, whole_of is₁ Y Z m a le) (record {
          free = omega arith;
          items = rw (one.items, two.items);
          corners = placed_parts corners_of 4 (λ _. refl) b l k at node next (at + m) free C C₁ C₂ C₃ q f (rw t at s.corners) one.corners two.corners;
          links = placed_parts links_of 2 (λ _. refl) b l k at node next (at + m) free L L₁ L₂ L₃ q f (rw t at s.links) one.links two.links;
        })
