-- A node that waits: the tree that stands there, wherever its nodes are, and those of its children. Assumes nothing.
use mathlib.Core.Path.{◌≡◌, refl, sym, ap, ap₂, ◌∙◌}
use mathlib.Core.Bool.{cond}
use mathlib.Core.List.{List, [], ◌++◌}
use Prim.Native.Nat.{ℕ, zero, suc, ◌+◌, ◌≤◌, ◌<◌}
use native.Mathlib.Omega.{arith}
use borrow.Author.Tests.{lt-ltb}
use lib.Dec.{ltb}
use Rattle.boundary.specs.declared.Point.{Point}
use Rattle.boundary.specs.declared.Bounds.{Bounds}
use Rattle.boundary.specs.Boxes.{gap_squares_of}
use Rattle.search.specs.declared.Entry.{Entry}
use Rattle.tree.specs.Tree.{Tree, leaf, inner, items_of, EachNode}
use Rattle.nodes.specs.Layout.{extra, first_at, count_at}
use Rattle.index.specs.Buffer.{IndexBuffer, node_box, leaf_items, Stands}
use Rattle.search.specs.Walk.{entry_for}

module _ (B : IndexBuffer) where
  -- the tree at node n, read d levels deep at most
  unfoldable pub tree_at : ℕ → ℕ → Tree
  tree_at zero n = leaf (node_box B n) []
  tree_at (suc d) n =
      let l = tree_at d (first_at B.links n) in
      let r = tree_at d (first_at B.links n + 1) in
      cond (ltb 0 (count_at B.links n)) (leaf (node_box B n) (leaf_items B n)) (inner (node_box B n) l r)

  -- reading gives back the tree that stands there: it has no more levels than nodes
  pub read_stands : (t : Tree) (d n : ℕ) → Stands B n t → extra t < d → tree_at d n ≡ t
  unfolding Stands extra tree_at
  read_stands t zero n s h = absurd (omega arith)
  read_stands (leaf b is) (suc d) n s h = rw (lt-ltb 0 (count_at B.links n) s.1) (ap₂ leaf s.0 s.2)
  read_stands (inner b l r) (suc d) n s h =
      let p = read_stands l d (first_at B.links n) s.3 (omega arith) in
      let q = read_stands r d (first_at B.links n + 1) s.4 (omega arith) in
      rw (s.1, p, q, s.0)

  stands_items : (t : Tree) (n : ℕ) → Stands B n t → 0 < count_at B.links n → items_of t ≡ leaf_items B n
  unfolding Stands items_of
  stands_items (leaf b is) n s c = sym s.2
  stands_items (inner b l r) n s c = let z = s.1 in absurd (omega arith)

  stands_root : (Q : Bounds → List ℕ → Type 0) (t : Tree) (n : ℕ) → Stands B n t → EachNode Q t → Q (node_box B n) (items_of t)
  unfolding Stands EachNode items_of
  stands_root Q (leaf b is) n s E = rw s.0 E
  stands_root Q (inner b l r) n s E = rw s.0 E.0

  module _ (d : ℕ) (p : Point) (Q : Bounds → List ℕ → Type 0) where
    -- the entry is a node where a tree of at most d nodes stands, with its gap, and Q holds of every node there
    pub record Waits (x : Entry) : Type 0 where
      pub gap : x.gap ≡ gap_squares_of (node_box B x.node) p
      pub stands : Stands B x.node (tree_at d x.node)
      pub few : extra (tree_at d x.node) < d
      pub each : EachNode Q (tree_at d x.node)

    pub waits_of : (t : Tree) (n : ℕ) → Stands B n t → extra t < d → EachNode Q t → Waits (entry_for B.corners p n)
    waits_of t n s h E = let e = read_stands t d n s h in record { gap = refl; stands = rw e s; few = rw e h; each = rw e E }

    pub waits_items : (x : Entry) → Waits x → 0 < count_at B.links x.node → items_of (tree_at d x.node) ≡ leaf_items B x.node
    waits_items x w = stands_items (tree_at d x.node) x.node w.stands

    pub waits_root : (x : Entry) → Waits x → Q (node_box B x.node) (items_of (tree_at d x.node))
    waits_root x w = stands_root Q (tree_at d x.node) x.node w.stands w.each

    -- the children of node n, the nodes f and f + 1
    pub record Children (n f : ℕ) : Type 0 where
      pub first : Waits (entry_for B.corners p f)
      pub second : Waits (entry_for B.corners p (f + 1))
      pub items : items_of (tree_at d n) ≡ items_of (tree_at d f) ++ items_of (tree_at d (f + 1))
      pub small : f + 2 ≤ 511
      pub size : extra (tree_at d n) ≡ 2 + extra (tree_at d f) + extra (tree_at d (f + 1))

    children : (t : Tree) (n : ℕ) → tree_at d n ≡ t → Stands B n t → extra t < d → EachNode Q t → count_at B.links n ≡ 0 → Children n (first_at B.links n)
    unfolding Stands EachNode items_of extra
    children (leaf b is) n e s h E c = let z = s.1 in absurd (omega arith)
    children (inner b l r) n e s h E c =
        let f = first_at B.links n in
        let el = read_stands l d f s.3 (omega arith) in
        let er = read_stands r d (f + 1) s.4 (omega arith) in
        record {
          first = waits_of l f s.3 (omega arith) E.1;
          second = waits_of r (f + 1) s.4 (omega arith) E.2;
          items = ap items_of e ∙ ap₂ (λ (s t : Tree). items_of s ++ items_of t) (sym el) (sym er);
          small = s.2;
          size = ap extra e ∙ ap₂ (λ (s t : Tree). 2 + extra s + extra t) (sym el) (sym er);
        }

    pub waits_children : (x : Entry) → Waits x → count_at B.links x.node ≡ 0 → Children x.node (first_at B.links x.node)
    waits_children x w = children (tree_at d x.node) x.node refl w.stands w.few w.each
