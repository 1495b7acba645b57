-- `index::building::grow_leaf` meets its contract. Assumes nothing.
use Rattle.boxes.specs.BoxLists.{box_count}
use Rattle.index.proofs.GrowLaws.{leaf_grown}
use lib.Seq.{length-take-le}
use mathlib.Core.Path.{sym}
use native.Mathlib.Omega.{arith}
use Rattle.index.proofs.building.grow_leaf.Goals as goal

pub slice_bounds-count_up-end-2 : goal.slice_bounds-count_up-end-2
slice_bounds-count_up-end-2 c =
    let P = c.requires in
    let i = P.0.items in
    let k = P.1 in
    sym (length-take-le _ c.args.items.now (omega arith))

pub count_up-requires : goal.count_up-requires
count_up-requires c =
    let P = c.requires in
    let i = P.0.items in
    let k = P.1 in
    let l = length-take-le (box_count c.args.boxes.now) c.args.items.now (omega arith) in
    omega arith

pub returns : goal.returns
returns c =
    let P = c.requires in
    let A = P.0 in
    leaf_grown _ _ _ _ _ _ _ P.1 A.corners A.links A.items (rw (c.put_box.ensures, c.hull_wide.ensures)) c.put_links.ensures c.count_up.ensures
