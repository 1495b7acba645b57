-- `meeting::listed` meets its contract. Assumes nothing.
use Rattle.meeting.proofs.MeetingLaws.{listed_of}
use Rattle.index.specs.Buffer.{buffer}
use Rattle.index.proofs.IndexCovers.{index_levels}
use Rattle.meeting.proofs.listed.Goals as goal

pub returns : goal.returns
returns c =
    let a = c.args in
    let B = buffer a.corners.now a.links.now a.items.now in
    let D = buffer c.grow_or_leaf.new.corners c.grow_or_leaf.new.links c.grow_or_leaf.new.items in
    listed_of a.boxes.now a.c c.requires.1 B _ D _ a.list.now _ c.grow_or_leaf.result _ (index_levels a.boxes.now c.requires.1)
    c.requires.0 c.requires.2 c.grow_or_leaf.ensures c.walk-count.ensures c.clear.ensures
