-- `search::look_at` meets its contract: an outline that is left out is farther than the best. Assumes nothing.
use Rattle.boundary.proofs.KnownLaws.{owned_point}
use Rattle.set.specs.Set.{outlines_of}
use Rattle.search.proofs.LookLaws.{outline_fit, box_left_out, point_left_out, looked_at}
use Rattle.search.proofs.look_at.Goals as goal

pub returns-then-kept-box_squares : goal.returns-then-kept-box_squares
returns-then-kept-box_squares c =
    let a = c.args in
    let A = c.requires.0 in
    let P = owned_point c.well_formed.1.1.0 A.point in
    box_left_out (outlines_of a.view.now.set.vertices.now a.view.now.set.counts.now) A.fitting A.held a.p a.k c.requires.2 P a.kept c.requires.3
    a.view.now.boxes.now c.requires.1 (rw c.box_squares.ensures at c.if-kept-box_squares.true)

pub nearest_edge-f-requires : goal.nearest_edge-f-requires
nearest_edge-f-requires c =
    let a = c.args in
    let A = c.requires.0 in
    let f = outline_fit (outlines_of a.view.now.set.vertices.now a.view.now.set.counts.now) A.fitting A.held a.p a.k c.requires.2 _ c.outline_at-outline.ensures in
    (f.0, A.point, f.1)

pub returns-then-kept-squares_to : goal.returns-then-kept-squares_to
returns-then-kept-squares_to c =
    let s = c in
    let a = s.args in
    let A = s.requires.0 in
    let P = owned_point s.well_formed.1.1.0 A.point in
    point_left_out (outlines_of a.view.now.set.vertices.now a.view.now.set.counts.now) A.fitting A.held a.p a.k s.requires.2 P a.kept s.requires.3
    _ c.outline_at-outline.ensures _ c.nearest_edge-f.ensures (rw c.squares_to.ensures at c.if-kept-squares_to.true)

pub returns : goal.returns
returns c =
    let o = c in
    let s = o in
    let a = s.args in
    let A = s.requires.0 in
    let P = owned_point s.well_formed.1.1.0 A.point in
    looked_at (outlines_of a.view.now.set.vertices.now a.view.now.set.counts.now) A.fitting A.held a.p a.k s.requires.2 P a.kept s.requires.3
    _ o.outline_at-outline.ensures _ c.nearest_edge-f.ensures _ (rw c.hypot.ensures at c.improve.ensures)
