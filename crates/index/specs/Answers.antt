-- The tests of a box list, in document 01's order, and all that building leaves. Definitions only.
use Rattle.std.specs.Prelude.{◌≡◌, not, List, ℕ, ◌%◌, ◌≤◌, eqb, ltb, length, Ok, Float}
use Rattle.boundary.specs.Boxes.{box_fits}
use Rattle.lists.specs.Lists.{any}
use Rattle.accept.specs.declared.Refusal.TheVariants.{TooMany, BadBox, ShortBuffer}
use Rattle.accept.specs.Answers.{Outcome, Fields, fields_of, refused_with, in_fields}
use Rattle.index.specs.declared.TreeSize.{TreeSize}
use Rattle.accept.specs.Refusals.{Answer, Test, all_passed, given, ◌refusing◌when◌}
use Rattle.index.specs.Buffer.{IndexBuffer, short_buffer, holding, corner_places, link_places, item_places}
use Rattle.boxes.specs.BoxLists.{boxes_of}
use Rattle.tree.specs.Tree.{Tree, index_of, items_of}
use Rattle.nodes.specs.Layout.{nodes_of}

-- ---- tests 4 and 11
unfoldable pub boxes_tested : List Float → Test
unfolding box_fits boxes_of any ◌refusing◌when◌
boxes_tested v =
    all_passed
    refusing TooMany when ltb 4096 (length v)
    refusing BadBox when not (eqb (length v % 4) 0)
    refusing BadBox when any (λ b. not (box_fits b)) (boxes_of v)

-- a box list that passes the tests, and lists of so many corner numbers, link numbers and items that are an index buffer
pub record Accepted (v : List Float) (c l n : ℕ) : Type 0 where
  pub size : length v ≤ 4096
  pub whole : length v % 4 ≡ 0
  pub corners : corner_places ≤ c
  pub links : link_places ≤ l
  pub items : item_places ≤ n

-- ---- building, by what the call is lent: the boxes v, and the index buffer B
unfoldable pub build_tested : List Float → IndexBuffer → Test
unfolding boxes_tested ◌refusing◌when◌
build_tested v B =
    boxes_tested v
    refusing ShortBuffer when short_buffer B

-- how many nodes and items a tree has
abbrev pub size_of : Tree → TreeSize
size_of t = record { nodes = length (nodes_of t); items = length (items_of t) }

-- what it answers, the size of the tree, and what it leaves in the buffer
unfoldable pub build_outcome : List Float → IndexBuffer → Outcome (Answer TreeSize) IndexBuffer
unfolding build_tested given
build_outcome v B = given (build_tested v B)
    (record { answer = Ok (size_of (index_of v)); lent = holding (index_of v) B })
    (refused_with B)

-- what the call returns and puts into its answer fields: a refusal gives its number, and zeros
abbrev pub no_tree : TreeSize
no_tree = record { nodes = 0; items = 0 }

abbrev pub build_fields_of : Answer TreeSize → Fields TreeSize
build_fields_of a = fields_of no_tree a

-- the same outcome, with the answer in its fields
unfoldable pub build_call : List Float → IndexBuffer → Outcome (Fields TreeSize) IndexBuffer
unfolding build_outcome
build_call v B = in_fields build_fields_of (build_outcome v B)
