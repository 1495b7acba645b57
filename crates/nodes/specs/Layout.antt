-- The tree's nodes as the Rust numbers them, and the numbers of a node (document 01, index.rs). Definitions only.
use mathlib.Core.List.{List, [], ◌∷◌, ◌++◌, flat_map}
use Rattle.std.specs.Prelude.{◌≡◌, ℕ, ◌+◌, ◌*◌, ◌^◌, ◌≤◌, ◌<◌, length, get_or, Float}
use Rattle.std.proofs.lemmas.List.Edits.{sets}
use Rattle.nodes.specs.declared.Node.{Node}
use Rattle.tree.specs.Tree.{Tree, leaf, inner, items_of}

-- how many nodes there are below the root
unfoldable pub extra : Tree → ℕ
extra (leaf b is) = 0
extra (inner b l r) = 2 + extra l + extra r

-- a tree's own node: a leaf's items begin at `at`, an inner node's children are the nodes `next` and next + 1
unfoldable pub node_of : Tree → ℕ → ℕ → Node
node_of (leaf b is) at next = record { lo = b.min; hi = b.max; first = at; count = length is }
node_of (inner b l r) at next = record { lo = b.min; hi = b.max; first = next; count = 0 }

-- the nodes below it, numbered from `next` on: both children, then what is below the first, then what is below the second
unfoldable pub nodes_below : Tree → ℕ → ℕ → List Node
unfolding node_of extra items_of
nodes_below (leaf b is) at next = []
nodes_below (inner b l r) at next =
    node_of l at (next + 2) ∷ node_of r (at + length (items_of l)) (next + 2 + extra l)
    ∷ (nodes_below l at (next + 2) ++ nodes_below r (at + length (items_of l)) (next + 2 + extra l))

-- all nodes, in the order of their numbers: the root is 0
unfoldable pub nodes_of : Tree → List Node
unfolding node_of nodes_below
nodes_of t = node_of t 0 1 ∷ nodes_below t 0 1

-- a node's corners, min x, min y, max x, max y, and its links, first and count
abbrev pub corners_of : Node → List Float
corners_of n = n.lo.x ∷ n.lo.y ∷ n.hi.x ∷ n.hi.y ∷ []

abbrev pub links_of : Node → List ℕ
links_of n = n.first ∷ n.count ∷ []

-- ---- an index buffer read: the k-th item, and node n's links
abbrev pub item_at : List ℕ → ℕ → ℕ
item_at I k = get_or I k 0

abbrev pub first_at : List ℕ → ℕ → ℕ
first_at L n = get_or L (2 * n) 0

abbrev pub count_at : List ℕ → ℕ → ℕ
count_at L n = get_or L (2 * n + 1) 0

-- ---- what the build puts where
-- the list s with what f gives of the tree's nodes, w places for each: its own at node number `node`, those below from `next` on
unfoldable pub placed : {A : Type 0} → (Node → List A) → ℕ → Tree → ℕ → ℕ → ℕ → List A → List A
unfolding flat_map node_of nodes_below
placed f w t at node next s = sets (sets s (w * node) (f (node_of t at next))) (w * next) (flat_map f (nodes_below t at next))

-- ---- what a call of the build asks and leaves, where it puts the tree t
-- the working list is as long as the items', and all numbers are 32 bits long
pub record Room (n work at node next : ℕ) : Type 0 where
  pub room : n ≤ work
  pub items : at + n < 2 ^ 32
  pub own : node < 2 ^ 32
  pub free : next + 2 * n < 2 ^ 32

-- its own node is put
pub record Settled (t : Tree) (at node next : ℕ) (C : List Float) (L : List ℕ) (C' : List Float) (L' : List ℕ) : Type 0 where
  pub corners : C' ≡ sets C (4 * node) (corners_of (node_of t at next))
  pub links : L' ≡ sets L (2 * node) (links_of (node_of t at next))

-- all is put: the first number not used, the items, the corners and the links
pub record Grown (t : Tree) (at node next : ℕ) (C : List Float) (L : List ℕ) (r : ℕ) (is : List ℕ) (C' : List Float) (L' : List ℕ) : Type 0 where
  pub free : r ≡ next + extra t
  pub items : is ≡ items_of t
  pub corners : C' ≡ placed corners_of 4 t at node next C
  pub links : L' ≡ placed links_of 2 t at node next L
