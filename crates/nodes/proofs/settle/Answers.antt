-- `nodes::settle` meets its contract. Assumes nothing.
use Rattle.tree.proofs.ArrangedLaws.{arranged_leaf, arranged_inner}
use Rattle.nodes.proofs.BuildLaws.{settled_leaf, settled_inner}
use Rattle.boxes.specs.BoxLists.{box_at, point_in}
use Rattle.sorts.proofs.PartLaws.{sort_sorted}
use lib.Dec.{leb}
use mathlib.Core.Path.{sym, ◌∙◌}
use Rattle.nodes.proofs.settle.Goals as goal

pub returns-then-n-le4 : goal.returns-then-n-le4
returns-then-n-le4 c =
    let a = c.args in
    let W = box_at a.entries.wide.now in
    let P = point_in a.entries.xs.now a.entries.ys.now in
    let h = c.if-n-le4.true in (
      settled_leaf W P a.list.now a.place.at a.place.node a.place.next a.corners.now a.links.now _ _ h (rw (c.put_box.ensures, c.hull_of.ensures)) c.put_links.ensures,
      sym (arranged_leaf P a.list.now h ∙ sort_sorted leb a.list.now c.requires.0),
    )

pub returns-else-n-le4 : goal.returns-else-n-le4
returns-else-n-le4 c =
    let a = c.args in
    let W = box_at a.entries.wide.now in
    let P = point_in a.entries.xs.now a.entries.ys.now in
    let h = c.if-n-le4.false in (
      settled_inner W P a.list.now a.place.at a.place.node a.place.next a.corners.now a.links.now _ _ h (rw (c.put_box-else-n-le4.ensures, c.spans_of-spans.ensures.0)) c.put_links-else-n-le4.ensures,
      c.split.ensures ∙ sym (arranged_inner P a.list.now h),
    )
