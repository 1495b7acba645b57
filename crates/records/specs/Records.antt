-- The tree as a lent list of node records (document 01): what the call tests and leaves. Definitions only.
use Rattle.std.specs.Prelude.{List, ℕ, ltb, length, Ok, Float}
use Rattle.accept.specs.declared.Refusal.TheVariants.{ShortBuffer}
use Rattle.accept.specs.Answers.{Outcome, Fields, refused_with, in_fields}
use Rattle.lists.specs.Lists.{at_front}
use Rattle.accept.specs.Refusals.{Answer, Test, given, ◌refusing◌when◌}
use Rattle.nodes.specs.declared.Node.{Node}
use Rattle.boxes.specs.BoxLists.{box_at}
use Rattle.tree.specs.Tree.{Tree, index_of, items_of}
use Rattle.nodes.specs.Layout.{nodes_of, first_at, count_at}
use Rattle.index.specs.Answers.{boxes_tested, size_of, build_fields_of}
use Rattle.index.specs.declared.TreeSize.{TreeSize}

-- node n's record
unfoldable pub node_in : List Float → List ℕ → ℕ → Node
node_in B L n = record { lo = (box_at B n).min; hi = (box_at B n).max; first = first_at L n; count = count_at L n }

-- ---- the call, by what it is lent: the boxes v, a list N of records, and a list I of items
-- tests 4, 11 and 13, where lists of so many records and items are lent
unfoldable pub nodes_tested : List Float → ℕ → ℕ → Test
unfolding boxes_tested ◌refusing◌when◌
nodes_tested v nodes items =
    boxes_tested v
    refusing ShortBuffer when ltb nodes 511
    refusing ShortBuffer when ltb items 1024

pub record NodesLent : Type 0 where
  pub nodes : List Node
  pub items : List ℕ

-- all nodes of the tree at the front of N, and its items at the front of I
abbrev pub recorded : Tree → List Node → List ℕ → NodesLent
recorded t N I = record { nodes = at_front (nodes_of t) N; items = at_front (items_of t) I }

-- what it answers, the size of the tree, and what it leaves in the lists
unfoldable pub records_outcome : List Float → List Node → List ℕ → Outcome (Answer TreeSize) NodesLent
unfolding nodes_tested given
records_outcome v N I = given (nodes_tested v (length N) (length I))
    (record { answer = Ok (size_of (index_of v)); lent = recorded (index_of v) N I })
    (refused_with (record { nodes = N; items = I }))

-- the same, with the answer in its fields, as building does
unfoldable pub nodes_call : List Float → List Node → List ℕ → Outcome (Fields TreeSize) NodesLent
nodes_call v N I = in_fields build_fields_of (records_outcome v N I)
