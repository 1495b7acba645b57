-- `any::any_found` meets its contract. Assumes nothing.
use Rattle.index.specs.Buffer.{buffer}
use Rattle.meeting.proofs.WalkLaws.{put_within}
use Rattle.any.proofs.ListedLaws.{any_listed}
use borrow.Author.Rules.{rules}
use Rattle.any.proofs.any_found.Goals as goal

pub slice_bounds-any_holds-end : goal.slice_bounds-any_holds-end
slice_bounds-any_holds-end c = let w = put_within _ _ _ _ _ c.walk-count.ensures in search rules

pub returns : goal.returns
returns c =
    let a = c.args in
    let B = buffer a.view.now.corners.now a.view.now.links.now a.view.now.items.now in
    any_listed a.set.now.vertices.now a.set.now.counts.now a.p c.requires.0 c.requires.1 B c.requires.3 _ _ _ (search rules) c.walk-count.ensures _ c.any_holds.ensures
