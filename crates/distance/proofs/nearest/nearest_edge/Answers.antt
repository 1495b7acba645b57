-- `distance::nearest::nearest_edge` meets its contract: the nearest so far and the edges that are left give the nearest of all. Assumes nothing.
use Rattle.boundary.proofs.FieldLaws.{edge_in_field_lem}
use Rattle.distance.proofs.SearchLaws.{found_far, searched_first, searched_next, searched_end}
use Rattle.distance.proofs.nearest.nearest_edge.Goals as goal

pub found-best-requires : goal.found-best-requires
found-best-requires c =
    (rw c.edge_at.ensures (edge_in_field_lem c.args.v.now c.requires.0 _ c.near_vertex-k.ensures), c.requires.1)

pub loop-i-init : goal.loop-i-init
loop-i-init c =
    let f = rw c.edge_at.ensures at c.found-best.ensures in
    let k = c in
    let s = k in
    rw (c.first_turn-i.ensures, f.0) (searched_first s.args.v.now s.args.p _ k.near_vertex-k.ensures f.1 f.2)

pub nearer_edge-best-requires : goal.nearer_edge-best-requires
nearer_edge-best-requires c =
    let s = c in
    let b = c.loop-i.invariant in
    (rw c.edge_at-in-loop-i.ensures (edge_in_field_lem s.args.v.now s.requires.0 c.loop-i.i c.loop-i-test.true), s.requires.1, b.short, found_far _ _ _ b.found)

pub loop-i-preserved : goal.loop-i-preserved
loop-i-preserved c =
    let n = rw c.edge_at-in-loop-i.ensures at c.nearer_edge-best.ensures in
    searched_next _ c.loop-i.invariant c.loop-i-test.true n.1 n.2 n.0

pub returns : goal.returns
returns c = let s = c.loop-i.invariant in record { edge = s.edge; found = s.found; nearest = searched_end s c.loop-i-test.false }
