-- `search::look` meets its contract: the best so far and the items that are left give the best of all. Assumes nothing.
use Rattle.set.specs.Set.{outlines_of}
use Rattle.search.specs.Least.{magnitude_at}
use Rattle.search.proofs.LookLaws.{look_first, look_item, look_next, look_end}
use Rattle.search.proofs.look.Goals as goal

pub loop-i-init : goal.loop-i-init
loop-i-init c =
    let a = c.args in
    (look_first (magnitude_at (outlines_of a.view.now.set.vertices.now a.view.now.set.counts.now) a.p) a.index.now.items.now a.first a.count a.start.best, c.requires.3)

pub look_at-kept-requires : goal.look_at-kept-requires
look_at-kept-requires c =
    let a = c.args in
    let D = magnitude_at (outlines_of a.view.now.set.vertices.now a.view.now.set.counts.now) a.p in
    let l = c.loop-i in
    (c.requires.0, c.requires.1, look_item D a.index.now.items.now a.first a.count l.i c.loop-i-test.true _ c.item_at-k.ensures _ c.requires.2, l.invariant.1)

pub loop-i-preserved : goal.loop-i-preserved
loop-i-preserved c =
    let l = c.loop-i in
    let a = c.args in
    let D = magnitude_at (outlines_of a.view.now.set.vertices.now a.view.now.set.counts.now) a.p in
    let e = c.look_at-kept.ensures in
    (look_next D a.index.now.items.now a.first a.count l.i l.kept.best _ l.invariant.0 c.loop-i-test.true _ _ c.item_at-k.ensures e.0, e.1)

pub returns : goal.returns
returns c =
    let l = c.loop-i in
    let a = c.args in
    let D = magnitude_at (outlines_of a.view.now.set.vertices.now a.view.now.set.counts.now) a.p in
    (look_end D a.index.now.items.now a.first a.count l.i l.kept.best _ l.invariant.0 c.loop-i-test.false, l.invariant.1)
