-- `meeting::meeting` meets its contract. Assumes nothing.
use Rattle.accept.proofs.TestLaws.{handed_on}
use Rattle.meeting.proofs.MeetingLaws.{length_meeting, listing_count, meeting_accepted, met, meeting_refused}
use Rattle.meeting.specs.Answers.{meeting_tested}
use Rattle.index.specs.Buffer.{buffer}
use Rattle.index.proofs.GrowLaws.{length_index_items}
use Rattle.tree.specs.Tree.{index_of}
use borrow.Author.Rules.{rules}
use Rattle.meeting.proofs.meeting.Goals as goal

pub listed-requires : goal.listed-requires
unfolding meeting_tested
listed-requires c =
    let a = c.args in
    meeting_accepted a.boxes.now a.c (buffer a.corners.now a.links.now a.items.now) a.list.now
    c.tested.ensures c.in_ok-tested.was

pub overflow_cast-result : goal.overflow_cast-result
unfolding meeting_tested
overflow_cast-result c =
    let a = c.args in
    let e = c.in_ok-tested.was in
    let B = buffer a.corners.now a.links.now a.items.now in
    let s = (meeting_accepted a.boxes.now a.c B a.list.now c.tested.ensures e).0.size in
    let n = length_index_items a.boxes.now in
    let m = length_meeting a.c (index_of a.boxes.now) in
    let k = listing_count a.boxes.now a.c B a.list.now c.listed.ensures in
    search rules

pub returns : goal.returns
unfolding meeting_tested
returns c =
    let a = c.args in
    let e = c.in_ok-tested.was in
    met a.boxes.now a.c (buffer a.corners.now a.links.now a.items.now) a.list.now c.tested.ensures e
    c.listed.ensures

pub returns-in_err-tested : goal.returns-in_err-tested
unfolding meeting_tested
returns-in_err-tested c =
    let a = c.args in
    rw (handed_on c.from_residual.ensures.1)
    (meeting_refused a.boxes.now a.c (buffer a.corners.now a.links.now a.items.now) a.list.now c.tested.ensures c.in_err-tested.was)
