-- The numbers of the nodes that wait in the Rust's walk: those of the layout. Definitions only.
use Rattle.std.specs.Prelude.{◌≡◌, List, [], ◌∷◌, ℕ, length, take, drop}
use Rattle.boundary.specs.declared.Point.{Point}
use Rattle.tree.specs.Tree.{Tree, items_of}
use Rattle.nodes.specs.Layout.{node_of, nodes_below, nodes_of}
use Rattle.nearest.specs.Rust.{Waiting, waiting_for, least_out, waiting_after}

-- xs stand in the list ys from the place n on
abbrev pub StandFrom : {A : Type 0} → List A → ℕ → List A → Type 0
StandFrom ys n xs = take (length xs) (drop n ys) ≡ xs

-- the numbers of an entry are those of the root's layout
pub record Numbered (root : Tree) (w : Waiting) : Type 0 where
  -- its items stand from this place on
  pub place : ℕ
  pub items : StandFrom (items_of root) place (items_of w.tree)
  -- its own node stands at its number, and the nodes below it from its next number on: an inner node's children are next and next + 1
  pub own : StandFrom (nodes_of root) w.node (node_of w.tree place w.next ∷ [])
  pub lower : StandFrom (nodes_of root) w.next (nodes_below w.tree place w.next)

-- the lists that wait at the turns of a walk from the root on: the root alone, and after each turn what it leaves
pub data WaitsAt (p : Point) (root : Tree) : List Waiting → Type 0 where
  at_start : WaitsAt p root (waiting_for p 0 1 root ∷ [])
  after_turn : {x : Waiting} {xs : List Waiting} → WaitsAt p root (x ∷ xs) → WaitsAt p root (waiting_after p (least_out x xs))
