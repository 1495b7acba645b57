-- `distance::nearest::found` meets its contract. Assumes nothing.
use Rattle.distance.specs.Search.{found_of}
use Rattle.boundary.proofs.KnownLaws.{owned_point, owned_edge}
use Rattle.distance.proofs.SearchLaws.{foot_near, near_finite}
use Rattle.distance.proofs.nearest.found.Goals as goal

pub returns : goal.returns
unfolding found_of
returns c =
    let s = c in
    let e = owned_edge s.well_formed.0 s.requires.0 in
    let p = owned_point s.well_formed.1.1.0 s.requires.1 in
    (rw (c.clear_limit.ensures, c.squares_to.ensures, c.foot-q.ensures), foot_near e p, near_finite e p)
