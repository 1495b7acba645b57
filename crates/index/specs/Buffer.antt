-- An *index buffer* (document 01): places for 511 nodes and 1,024 items, what stands there, and what a call leaves there. Definitions only.
use Rattle.std.specs.Prelude.{◌≡◌, Bool, ◌||◌, ℕ, ◌+◌, ◌≤◌, ◌<◌, max, ltb, length, Float}
use mathlib.Core.List.{List, flat_map}
use Rattle.number.specs.Exact.{zeroᶠ}
use Rattle.boundary.specs.declared.Bounds.{Bounds}
use Rattle.lists.specs.Lists.{run, at_front, zeros}
use Rattle.accept.specs.Answers.{Outcome}
use Rattle.boxes.specs.BoxLists.{box_at}
use Rattle.tree.specs.Tree.{Tree, leaf, inner, items_of}
use Rattle.nodes.specs.Layout.{nodes_of, corners_of, links_of, item_at, first_at, count_at}

-- the nodes' corners, four numbers each; the nodes' links, two each; the items
pub record IndexBuffer : Type 0 where
  pub corners : List Float
  pub links : List ℕ
  pub items : List ℕ

abbrev pub buffer : List Float → List ℕ → List ℕ → IndexBuffer
buffer corners links items = record { corners = corners; links = links; items = items }

-- its sizes: 511 nodes, with four corner numbers and two link numbers each, and 1,024 items
abbrev pub corner_places : ℕ
corner_places = 2044

abbrev pub link_places : ℕ
link_places = 1022

abbrev pub item_places : ℕ
item_places = 1024

-- lists of so many corner numbers, link numbers and items are no index buffer: they are too short (test 13)
abbrev pub short_sizes : ℕ → ℕ → ℕ → Bool
short_sizes corners links items = ltb corners corner_places || (ltb links link_places || ltb items item_places)

abbrev pub short_buffer : IndexBuffer → Bool
short_buffer B = short_sizes (length B.corners) (length B.links) (length B.items)

-- ---- what a call leaves there
-- the tree's nodes, as the Rust numbers them, and its items; places past them are unchanged
unfoldable pub holding : Tree → IndexBuffer → IndexBuffer
unfolding nodes_of items_of at_front
holding t B = record {
  corners = at_front (flat_map corners_of (nodes_of t)) B.corners;
  links = at_front (flat_map links_of (nodes_of t)) B.links;
  items = at_front (items_of t) B.items;
}

-- building there: the number of the tree's nodes, and the buffer that then holds it
unfoldable pub grown : Tree → IndexBuffer → Outcome ℕ IndexBuffer
grown t B = record { answer = length (nodes_of t); lent = holding t B }

-- after work: zeros in all 511 nodes and 1,024 items; places past them are unchanged
unfoldable pub cleared : IndexBuffer → IndexBuffer
unfolding at_front
cleared B = record {
  corners = at_front (zeros zeroᶠ corner_places) B.corners;
  links = at_front (zeros 0 link_places) B.links;
  items = at_front (zeros 0 item_places) B.items;
}

-- ---- a tree that stands in an index buffer, wherever its nodes and items are
-- the box of node n, and the items of a leaf
abbrev pub node_box : IndexBuffer → ℕ → Bounds
node_box B n = box_at B.corners n

abbrev pub leaf_items : IndexBuffer → ℕ → List ℕ
leaf_items B n = run (item_at B.items) (first_at B.links n) (count_at B.links n)

-- node n and what is below it is the tree: a node with a count is a leaf with so many items, a node without one has the nodes first and first + 1 for children
unfoldable pub Stands : IndexBuffer → ℕ → Tree → Type 0
Stands B n (leaf b is) = (node_box B n ≡ b) × (0 < count_at B.links n) × (leaf_items B n ≡ is)
Stands B n (inner b l r) = (node_box B n ≡ b) × (count_at B.links n ≡ 0) × (first_at B.links n + 2 ≤ 511) × Stands B (first_at B.links n) l × Stands B (first_at B.links n + 1) r

-- how many nodes there are from the root to the lowest leaf, both counted
unfoldable pub levels : Tree → ℕ
levels (leaf b is) = 1
levels (inner b l r) = 1 + max (levels l) (levels r)

-- each leaf has an item
unfoldable pub Filled : Tree → Type 0
Filled (leaf b is) = 0 < length is
Filled (inner b l r) = Filled l × Filled r
