-- What the build leaves holds the tree: each node stands at its number, each leaf's items at its place. Assumes nothing.
use mathlib.Core.Path.{◌≡◌, refl, sym, ap, ap₂, ◌∙◌}
use mathlib.Core.List.{List, [], ◌∷◌, ◌++◌, flat_map}
use Prim.Native.Nat.{ℕ, zero, suc, ◌+◌, ◌*◌, ◌^◌, ◌≤◌, ◌<◌}
use native.Mathlib.Nat.{add-zero, pow-suc}
use native.Mathlib.Omega.{arith}
use lib.Dec.{leb}
use lib.ListN.{length, get_or, drop, get_or-append}
use lib.Seq.{get_or-append-add, ext_get_or}
use lib.Ieee.{Float, nan}
use Rattle.boundary.specs.declared.Point.{Point}
use Rattle.boundary.specs.declared.Bounds.{Bounds}
use Rattle.lists.specs.Lists.{run, at_front}
use Rattle.sorts.proofs.SortLaws.{length_sort}
use Rattle.nodes.specs.declared.Node.{Node}
use Rattle.boxes.specs.BoxLists.{box_at}
use Rattle.tree.specs.Tree.{Tree, leaf, inner, hull_of, tree_of, items_of}
use Rattle.nodes.specs.Layout.{extra, node_of, nodes_below, nodes_of, corners_of, links_of, item_at, first_at, count_at}
use Rattle.index.specs.Buffer.{IndexBuffer, holding, Stands, levels, Filled}
use Rattle.lists.proofs.StoreLaws.{flat_at}
use Rattle.lists.proofs.RunLaws.{length_run, run_at}
use Rattle.tree.proofs.TreeLaws.{left, right, length_left, length_right, tree_induct}
use Rattle.nodes.proofs.LayoutLaws.{length_below}

abbrev pub box_of_node : Node → Bounds
box_of_node x = record { min = x.lo; max = x.hi }

-- what stands before the end does not depend on what is said to stand past it
get_or_default : {A : Type 0} (xs : List A) (i : ℕ) (d e : A) → i < length xs → get_or xs i d ≡ get_or xs i e
get_or_default [] i d e h = absurd (omega arith)
get_or_default (x ∷ xs) zero d e h = refl
get_or_default (x ∷ xs) (suc i) d e h = get_or_default xs i d e (omega arith)

module _ (B : List Float) (L I : List ℕ) where
  -- node n is x
  pub record NodeIs (n : ℕ) (x : Node) : Type 0 where
    pub box : box_at B n ≡ box_of_node x
    pub first : first_at L n ≡ x.first
    pub count : count_at L n ≡ x.count

  same : (m k : ℕ) (x y : Node) → m ≡ k → x ≡ y → NodeIs m x → NodeIs k y
  same m k x y e f s = rw (e, f) at s

  -- the tree t stands at node n, the nodes below it from `next` on, and its items from `at` on
  pub record HoldsTree (t : Tree) (at n next : ℕ) : Type 0 where
    pub own : NodeIs n (node_of t at next)
    pub rest : (j : ℕ) → j < extra t → NodeIs (next + j) (get_or (nodes_below t at next) j (node_of t at next))
    pub items : run (item_at I) at (length (items_of t)) ≡ items_of t

  -- a run that is two lists is the one, then the other
  two_runs : (a : ℕ) (xs ys : List ℕ) → run (item_at I) a (length (xs ++ ys)) ≡ xs ++ ys → (run (item_at I) a (length xs) ≡ xs) × (run (item_at I) (a + length xs) (length ys) ≡ ys)
  unfolding run
  two_runs a [] ys e = (refl, ap (λ (k : ℕ). run (item_at I) k (length ys)) (add-zero a) ∙ e)
  two_runs a (x ∷ xs) ys e =
      let h : item_at I a ≡ x = cc in
      let r : run (item_at I) (suc a) (length (xs ++ ys)) ≡ xs ++ ys = cc in
      let p = two_runs (suc a) xs ys r in
      let k : suc a + length xs ≡ a + suc (length xs) = omega arith in
      (ap₂ (λ (u : ℕ) (l : List ℕ). u ∷ l) h p.0, ap (λ (m : ℕ). run (item_at I) m (length ys)) (sym k) ∙ p.1)

  -- ---- the children
  module _ (b : Bounds) (l r : Tree) (at n next : ℕ) (h : HoldsTree (inner b l r) at n next) where
    abbrev second : ℕ
    second = at + length (items_of l)

    abbrev free : ℕ
    free = next + 2 + extra l

    pub holds_first : HoldsTree l at next (next + 2)
    unfolding nodes_below extra items_of
    holds_first = record {
      own = same (next + 0) next _ (node_of l at (next + 2)) (omega arith) refl (h.rest 0 (omega arith));
      rest = λ j k.
          same (next + suc (suc j)) (next + 2 + j) _ (get_or (nodes_below l at (next + 2)) j (node_of l at (next + 2))) (omega arith)
          (get_or-append (nodes_below l at (next + 2)) (nodes_below r second free) _ j (rw (length_below l at (next + 2)) k) ∙ get_or_default (nodes_below l at (next + 2)) j _ _ (rw (length_below l at (next + 2)) k))
          (h.rest (suc (suc j)) (omega arith));
      items = (two_runs at (items_of l) (items_of r) h.items).0;
    }

    pub holds_second : HoldsTree r second (next + 1) free
    unfolding nodes_below extra items_of
    holds_second = record {
      own = same (next + 1) (next + 1) _ (node_of r second free) refl refl (h.rest 1 (omega arith));
      rest = λ j k.
          let n = length_below l at (next + 2) in
          same (next + suc (suc (extra l + j))) (free + j) _ (get_or (nodes_below r second free) j (node_of r second free)) (omega arith)
          (ap (λ (m : ℕ). get_or (nodes_below l at (next + 2) ++ nodes_below r second free) (m + j) (node_of (inner b l r) at next)) (sym n) ∙ get_or-append-add (nodes_below l at (next + 2)) (nodes_below r second free) j _ ∙ get_or_default (nodes_below r second free) j _ _ (rw (length_below r second free) k))
          (h.rest (suc (suc (extra l + j))) (omega arith));
      items = (two_runs at (items_of l) (items_of r) h.items).1;
    }

-- ---- what the build leaves
module _ (N : List Node) (RB : List Float) (RL : List ℕ) (e : Node) where
  -- the node j of the list N
  pub node_is : (I : List ℕ) (j : ℕ) → j < length N → NodeIs (flat_map corners_of N ++ RB) (flat_map links_of N ++ RL) I j (get_or N j e)
  unfolding box_at
  node_is I j h =
      let four : 4 * j + 0 ≡ 4 * j = omega arith in
      let two : 2 * j + 0 ≡ 2 * j = omega arith in
      let corner : (k : ℕ) → k < 4 → get_or (flat_map corners_of N ++ RB) (4 * j + k) nan ≡ get_or (corners_of (get_or N j e)) k nan = λ k l. flat_at corners_of 4 (λ _. refl) N RB j k nan e h l in
      let link : (k : ℕ) → k < 2 → get_or (flat_map links_of N ++ RL) (2 * j + k) 0 ≡ get_or (links_of (get_or N j e)) k 0 = λ k l. flat_at links_of 2 (λ _. refl) N RL j k 0 e h l in
      let left = ap (λ (k : ℕ). get_or (flat_map corners_of N ++ RB) k nan) (sym four) ∙ corner 0 (omega arith) in
      record {
        box = rw (left, corner 1 (omega arith), corner 2 (omega arith), corner 3 (omega arith));
        first = ap (λ (k : ℕ). get_or (flat_map links_of N ++ RL) k 0) (sym two) ∙ link 0 (omega arith);
        count = link 1 (omega arith);
      }

run_front : (xs rest : List ℕ) → run (item_at (xs ++ rest)) 0 (length xs) ≡ xs
run_front xs rest =
    let n = length_run (item_at (xs ++ rest)) 0 (length xs) in
    ext_get_or 0 (run (item_at (xs ++ rest)) 0 (length xs)) xs n
    (λ i h. let l : i < length xs = rw n at h in let z : 0 + i ≡ i = omega arith in run_at (item_at (xs ++ rest)) 0 (length xs) i 0 l ∙ ap (item_at (xs ++ rest)) z ∙ get_or-append xs rest 0 i l)

-- THE BUFFER holds the tree
pub stored_holds : (t : Tree) (C : List Float) (L is : List ℕ) → HoldsTree (at_front (flat_map corners_of (nodes_of t)) C) (at_front (flat_map links_of (nodes_of t)) L) (at_front (items_of t) is) t 0 0 1
unfolding at_front nodes_of
stored_holds t C L is =
    let N = node_of t 0 1 ∷ nodes_below t 0 1 in
    let n = length_below t 0 1 in
    let at = node_is N (drop (length (flat_map corners_of N)) C) (drop (length (flat_map links_of N)) L) (node_of t 0 1) (items_of t ++ drop (length (items_of t)) is) in
    record {
      own = at 0 (omega arith);
      rest = λ j h. same _ _ _ (suc j) (1 + j) _ _ (omega arith) refl (at (suc j) (omega arith));
      items = run_front (items_of t) (drop (length (items_of t)) is);
    }

-- a tree that is held so, of which each leaf has an item, stands there
holds_stands : (B : IndexBuffer) (t : Tree) (at n next : ℕ) → HoldsTree B.corners B.links B.items t at n next → Filled t → next + extra t ≤ 511
    → Stands B n t
unfolding Stands Filled node_of items_of extra
holds_stands B (leaf b is) at n next h f room = (h.own.box, rw h.own.count f, rw (h.own.first, h.own.count) h.items)
holds_stands B (inner b l r) at n next h f room = (
  h.own.box,
  h.own.count,
  rw h.own.first (omega arith),
  rw h.own.first (holds_stands B l at next (next + 2) (holds_first _ _ _ b l r at n next h) f.0 (omega arith)),
  rw h.own.first (holds_stands B r (at + length (items_of l)) (next + 1) (next + 2 + extra l) (holds_second _ _ _ b l r at n next h) f.1 (omega arith)),
)

-- THE BUILD'S LAYOUT is one in which the tree stands, from node 0 on
pub holding_stands : (t : Tree) (B : IndexBuffer) → Filled t → 1 + extra t ≤ 511 → Stands (holding t B) 0 t
unfolding holding
holding_stands t B f room = holds_stands (holding t B) t 0 0 1 (stored_holds t B.corners B.links B.items) f room

-- ---- the trees of the build
-- four times 2^k items at most have k levels of inner nodes at most
pub tree_levels : (W : ℕ → Bounds) (C : ℕ → Point) (k : ℕ) (is : List ℕ) → length is ≤ 4 * 2 ^ k → levels (tree_of W C is) ≤ suc k
unfolding levels
tree_levels W C k is h =
    tree_induct W C (λ is t. (k : ℕ) → length is ≤ 4 * 2 ^ k → levels t ≤ suc k) (λ is _ k _. omega arith) step (length is) is (omega arith) k h
  where
    step : (is : List ℕ) (l r : Tree) → 4 < length is → ((k : ℕ) → length (left C is) ≤ 4 * 2 ^ k → levels l ≤ suc k)
        → ((k : ℕ) → length (right C is) ≤ 4 * 2 ^ k → levels r ≤ suc k)
        → (k : ℕ) → length is ≤ 4 * 2 ^ k → levels (inner (hull_of W is) l r) ≤ suc k
    step is l r h p q zero n = absurd (omega arith)
    step is l r h p q (suc k) n =
        let e : 2 ^ suc k ≡ 2 ^ k * 2 = pow-suc 2 k in
        let a = length_left C is in
        let b = length_right C is in
        let u = p k (omega arith) in
        let v = q k (omega arith) in
        omega arith

-- where there is an item, each leaf has one
pub tree_filled : (W : ℕ → Bounds) (C : ℕ → Point) (is : List ℕ) → 0 < length is → Filled (tree_of W C is)
unfolding Filled
tree_filled W C is s = tree_induct W C (λ is t. 0 < length is → Filled t) (λ is _ s. rw (length_sort leb is) s) step (length is) is (omega arith) s
  where
    step : (is : List ℕ) (l r : Tree) → 4 < length is → (0 < length (left C is) → Filled l) → (0 < length (right C is) → Filled r) → 0 < length is
        → Filled (inner (hull_of W is) l r)
    step is l r h p q s =
        let a = length_left C is in
        let b = length_right C is in
        (p (omega arith), q (omega arith))
