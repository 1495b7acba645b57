-- How many nodes a tree has: 511 do for 1,024 items. And where they are put: those of an inner tree are its own, then those of the first child, then those of the second. Assumes nothing.
use mathlib.Core.Path.{◌≡◌, refl, sym, ap, ◌∙◌}
use mathlib.Core.List.{List, ◌++◌, flat_map}
use Prim.Native.Nat.{ℕ, zero, suc, ◌+◌, ◌*◌, ◌^◌, ◌≤◌, ◌<◌}
use native.Mathlib.Nat.{mul-add, mul-one, le_of_eq, pow-suc}
use native.Mathlib.Omega.{arith}
use lib.ListN.{length, length-append}
use lib.Pow.{pow_pos}
use lib.Seq.{sets}
use Rattle.boundary.specs.declared.Point.{Point}
use Rattle.boundary.specs.declared.Bounds.{Bounds}
use Rattle.lists.specs.Lists.{at_front}
use Rattle.nodes.specs.declared.Node.{Node}
use Rattle.tree.specs.Tree.{Tree, leaf, inner, hull_of, tree_of, items_of}
use Rattle.tree.proofs.TreeLaws.{left, right, length_left, length_right, tree_induct}
use Rattle.nodes.specs.Layout.{extra, node_of, nodes_below, nodes_of, placed}
use Rattle.lists.proofs.StoreLaws.{sets_append, sets_swap, sets_front, flat_length, flat_append}

-- ---- how many there are
-- as many nodes below as are counted
pub length_below : (t : Tree) (at next : ℕ) → length (nodes_below t at next) ≡ extra t
unfolding nodes_below extra
length_below (leaf b is) at next = refl
length_below (inner b l r) at next =
    let p = length_below l at (next + 2) in
    let q = length_below r (at + length (items_of l)) (next + 2 + extra l) in
    let s = length-append (nodes_below l at (next + 2)) (nodes_below r (at + length (items_of l)) (next + 2 + extra l)) in
    omega arith

module _ (W : ℕ → Bounds) (C : ℕ → Point) where
  -- the nodes below the root are fewer than twice the items
  pub extra_below : (is : List ℕ) → 0 < length is → extra (tree_of W C is) + 2 ≤ 2 * length is
  unfolding extra
  extra_below is = tree_induct W C (λ is t. 0 < length is → extra t + 2 ≤ 2 * length is) (λ is h z. omega arith)
      (λ is l r h p q z. let a = length_left C is in let b = length_right C is in let u = p (omega arith) in let v = q (omega arith) in omega arith) (length is) is (omega arith)

  pub extra_bound : (k : ℕ) (is : List ℕ) → length is ≤ 4 * 2 ^ k → extra (tree_of W C is) + 2 ≤ 2 * 2 ^ k
  unfolding extra
  extra_bound k is = tree_induct W C (λ is t. (k : ℕ) → length is ≤ 4 * 2 ^ k → extra t + 2 ≤ 2 * 2 ^ k) (λ is h k l. let p = pow_pos k in omega arith) step (length is) is (omega arith) k
    where
      step : (is : List ℕ) (l r : Tree) → 4 < length is → ((k : ℕ) → length (left C is) ≤ 4 * 2 ^ k → extra l + 2 ≤ 2 * 2 ^ k) → ((k : ℕ) → length (right C is) ≤ 4 * 2 ^ k → extra r + 2 ≤ 2 * 2 ^ k)
          → (k : ℕ) → length is ≤ 4 * 2 ^ k → extra (inner (hull_of W is) l r) + 2 ≤ 2 * 2 ^ k
      step is l r h p q zero n = absurd (omega arith)
      step is l r h p q (suc k) n =
          let e : 2 ^ suc k ≡ 2 ^ k * 2 = pow-suc 2 k in
          let a = length_left C is in
          let b = length_right C is in
          let u = p k (omega arith) in
          let v = q k (omega arith) in
          omega arith

  -- 511 NODES suffice for 1,024 boxes
  pub nodes_suffice : (is : List ℕ) → length is ≤ 1024 → length (nodes_of (tree_of W C is)) ≤ 511
  unfolding nodes_of
  nodes_suffice is h = let e = extra_bound 8 is h in let l = length_below (tree_of W C is) 0 1 in omega arith

-- ---- where they are put
-- f gives w places for each node
module _ {A : Type 0} (f : Node → List A) (w : ℕ) (size : (n : Node) → length (f n) ≡ w) where
  -- four runs one after the other, the second and the third exchanged
  four_runs : (s p q u v : List A) (i j k : ℕ) (h : ℕ) → j ≡ i + length p → k ≡ j + length q → h ≡ k + length u
      → sets (sets (sets (sets s i p) k u) j q) h v ≡ sets s i (p ++ (q ++ (u ++ v)))
  four_runs s p q u v i j k h ej ek eh =
      ap (λ (x : List A). sets x h v) (sets_swap (sets s i p) j k q u (le_of_eq (sym ek)))
      ∙ rw (eh, sets_append (sets (sets s i p) j q) k u v, ek, sets_append (sets s i p) j q (u ++ v), ej, sets_append s i p (q ++ (u ++ v)))

  placed_inner : (b : Bounds) (l r : Tree) (at node next : ℕ) (s : List A)
      → placed f w r (at + length (items_of l)) (next + 1) (next + 2 + extra l) (placed f w l at next (next + 2) (sets s (w * node) (f (node_of (inner b l r) at next))))
      ≡ placed f w (inner b l r) at node next s
  unfolding placed nodes_below flat_map
  placed_inner b l r at node next s =
      let second = at + length (items_of l) in
      let free = next + 2 + extra l in
      let nl = node_of l at (next + 2) in
      let nr = node_of r second free in
      let bl = nodes_below l at (next + 2) in
      let br = nodes_below r second free in
      let one : w * (next + 1) ≡ w * next + length (f nl) = let e = mul-add w next 1 in let m = mul-one w in let z = size nl in omega arith in
      let two : w * (next + 2) ≡ w * (next + 1) + length (f nr) = let e = mul-add w (next + 1) 1 in let m = mul-one w in let z = size nr in let y = ap (λ (n : ℕ). w * n) (arith_two next) in omega arith in
      let three : w * free ≡ w * (next + 2) + length (flat_map f bl) = let e = mul-add w (next + 2) (extra l) in let z = flat_length f w size bl in let y = ap (λ (n : ℕ). w * n) (length_below l at (next + 2)) in omega arith in
      four_runs (sets s (w * node) (f (node_of (inner b l r) at next))) (f nl) (f nr) (flat_map f bl) (flat_map f br) (w * next) (w * (next + 1)) (w * (next + 2)) (w * free) one two three
      ∙ rw (flat_append f bl br)
    where
      arith_two : (n : ℕ) → n + 1 + 1 ≡ n + 2
      arith_two n = omega arith

  -- the node itself, the first child's and the second child's nodes put one after the other
  pub placed_parts : (b : Bounds) (l r : Tree) (at node next second free : ℕ) (s s₁ s₂ s₃ : List A) → second ≡ at + length (items_of l) → free ≡ next + 2 + extra l
      → s₁ ≡ sets s (w * node) (f (node_of (inner b l r) at next)) → s₂ ≡ placed f w l at next (next + 2) s₁ → s₃ ≡ placed f w r second (next + 1) free s₂
      → s₃ ≡ placed f w (inner b l r) at node next s
  placed_parts b l r at node next second free s s₁ s₂ s₃ p q e₁ e₂ e₃ = rw (e₃, e₂, e₁, p, q) (placed_inner b l r at node next s)

  -- a whole tree's nodes stand at the front, where there is room for them
  pub placed_front : (t : Tree) (s : List A) → w * length (nodes_of t) ≤ length s → placed f w t 0 0 1 s ≡ at_front (flat_map f (nodes_of t)) s
  unfolding placed nodes_of flat_map at_front
  placed_front t s h =
      let none : w * 0 ≡ 0 = omega arith in
      let one : w * 1 ≡ 0 + length (f (node_of t 0 1)) = let m = mul-one w in let z = size (node_of t 0 1) in omega arith in
      let l = flat_length f w size (nodes_of t) in
      rw (none, one, sets_append s 0 (f (node_of t 0 1)) (flat_map f (nodes_below t 0 1))) (sets_front s (f (node_of t 0 1) ++ flat_map f (nodes_below t 0 1)) (omega arith))
