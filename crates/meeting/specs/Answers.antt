-- The tests of `meeting`, in document 01's order, and all that the call leaves. Definitions only.
use Rattle.std.specs.Prelude.{not, List, ℕ, ltb, length, take, Ok, Err, Float}
use Rattle.boundary.specs.declared.Bounds.{Bounds}
use Rattle.boundary.specs.Boxes.{box_fits}
use Rattle.accept.specs.declared.Refusal.TheVariants.{BadBox, ShortBuffer}
use Rattle.accept.specs.Answers.{Outcome, count_fields, in_fields, Fields}
use Rattle.lists.specs.Lists.{at_front}
use Rattle.accept.specs.Refusals.{Answer, Test, given, ◌refusing◌when◌}
use Rattle.tree.specs.Tree.{index_of}
use Rattle.index.specs.Buffer.{IndexBuffer, short_buffer, cleared}
use Rattle.index.specs.Answers.{boxes_tested}
use Rattle.meeting.specs.Meeting.{meeting_of}

-- ---- by what the call is lent: the boxes v and the cell c, an index buffer B to work in, and the list S for the items, of 1,024 places
-- tests 4, 11 and 13
unfoldable pub meeting_tested : List Float → Bounds → IndexBuffer → List ℕ → Test
unfolding boxes_tested box_fits ◌refusing◌when◌
meeting_tested v c B S =
    boxes_tested v
    refusing BadBox when not (box_fits c)
    refusing ShortBuffer when short_buffer B
    refusing ShortBuffer when ltb (length S) 1024

pub record MeetingLent : Type 0 where
  pub buffer : IndexBuffer
  pub list : List ℕ

-- what a call that passes them leaves: how many items there are, the buffer cleared, and the items at the front of the list
unfoldable pub listing : List Float → Bounds → IndexBuffer → List ℕ → Outcome ℕ MeetingLent
listing v c B S =
    let items = meeting_of c (index_of v) in
    record { answer = length items; lent = record { buffer = cleared B; list = at_front items S } }

-- what every call leaves
unfoldable pub meeting_outcome : List Float → Bounds → IndexBuffer → List ℕ → Outcome (Answer ℕ) MeetingLent
unfolding meeting_tested given listing
meeting_outcome v c B S = given (meeting_tested v c B S)
    (record { answer = Ok (listing v c B S).answer; lent = (listing v c B S).lent })
    (λ r. record { answer = Err r; lent = record { buffer = B; list = S } })

-- the same, with the answer in its fields
abbrev pub meeting_call : List Float → Bounds → IndexBuffer → List ℕ → Outcome (Fields ℕ) MeetingLent
meeting_call v c B S = in_fields count_fields (meeting_outcome v c B S)

-- the numbers that a call lists: as many of the first places of its list as it counts, and so none where it is refused
unfoldable pub listed_by : List Float → Bounds → IndexBuffer → List ℕ → List ℕ
listed_by v c B S = take (meeting_call v c B S).answer.value (meeting_call v c B S).lent.list
