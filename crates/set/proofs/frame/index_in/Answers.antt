-- `set::frame::index_in` meets its contract. Assumes nothing.
use Rattle.index.specs.Buffer.{buffer}
use Rattle.set.proofs.AskLaws.{boxes_put}
use Rattle.set.proofs.FrameLaws.{grown_set}
use Rattle.set.proofs.frame.index_in.Goals as goal

pub returns : goal.returns
returns c =
    let x = c in
    let s = x in
    let a = s.args in
    let B = buffer a.corners.now a.links.now a.items.now in (
      grown_set a.set.now.vertices.now a.set.now.counts.now B a.boxes.now _ s.requires.1 x.put_boxes.ensures _ _ c.grow_or_leaf.ensures,
      boxes_put a.set.now.vertices.now a.set.now.counts.now a.boxes.now _ s.requires.1 x.put_boxes.ensures,
    )
