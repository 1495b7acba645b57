-- What `any_at` answers, and all that it leaves. Definitions only.
use Rattle.std.specs.Prelude.{Ok, Err}
use Rattle.accept.specs.Refusals.{Answer}
use Rattle.std.specs.Prelude.{Bool, cond, List, ℕ, Float}
use Rattle.boundary.specs.declared.Point.{Point}
use Rattle.boundary.specs.Boxes.{point_box}
use Rattle.lists.specs.Lists.{any}
use Rattle.boundary.specs.Outline.{edges}
use Rattle.accept.specs.Answers.{Outcome, count_fields, in_fields, Fields}
use Rattle.geometry.specs.Polygon.{contains_of}
use Rattle.tree.specs.Tree.{index_of}
use Rattle.index.specs.Buffer.{IndexBuffer}
use Rattle.meeting.specs.Meeting.{meeting_of}
use Rattle.set.specs.Set.{Outline, outlines_of, outline_in, set_boxes}
use Rattle.set.specs.Answers.{query_outcome}

-- ---- the answer
-- the outlines that `meeting` lists for the point, as a cell
unfoldable pub listed_at : List Outline → Point → List ℕ
unfolding set_boxes index_of meeting_of
listed_at os p = meeting_of (point_box p) (index_of (set_boxes os))

-- outline k has `contains` yes
abbrev pub contains_in : List Outline → Point → ℕ → Bool
contains_in os p k = contains_of (edges (outline_in os k)) p

-- some outline listed so has it
unfoldable pub any_at : List Outline → Point → Bool
unfolding listed_at edges contains_of
any_at os p = any (contains_in os p) (listed_at os p)

-- ---- the call, over the set that v and cs are, at p, with the index buffer B
-- yes is 1, and no is 0
unfoldable pub any_outcome : List Float → List ℕ → Point → IndexBuffer → Outcome (Answer ℕ) IndexBuffer
any_outcome v cs p B = query_outcome v cs p B (Ok (cond (any_at (outlines_of v cs) p) 1 0)) Err

-- the same, with the answer in its fields
abbrev pub any_call : List Float → List ℕ → Point → IndexBuffer → Outcome (Fields ℕ) IndexBuffer
any_call v cs p B = in_fields count_fields (any_outcome v cs p B)
