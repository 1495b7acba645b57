-- `distance::nearest::signed` meets its contract. Assumes nothing.
use lib.Ieee.{of_bits}
use Rattle.distance.specs.Nearest.{signed_of}
use Rattle.boundary.proofs.KnownLaws.{owned_point, owned_edge}
use Rattle.boundary.proofs.BoxLaws.{foot_at_most}
use Rattle.distance.proofs.ClearLaws.{away_signed}
use Rattle.distance.proofs.nearest.signed.Goals as goal

pub is_clear-requires : goal.is_clear-requires
is_clear-requires c =
    let E = owned_edge c.well_formed.0 c.requires.0 in
    let P = owned_point c.well_formed.1.1.1.0 c.requires.1 in
    (rw c.requires.2 (foot_at_most E P), c.requires.1)

pub returns-then-is_clear : goal.returns-then-is_clear
unfolding signed_of
returns-then-is_clear c =
    let f = c in
    let a = f.args in
    rw (← c.is_clear.ensures, c.if-is_clear.true, f.flip-d.ensures, away_signed a.inside _ a.m, away_signed a.inside _ a.m)

pub returns-then-m : goal.returns-then-m
unfolding signed_of of_bits
returns-then-m c =
    rw (← c.is_clear.ensures, c.if-is_clear.false, c.if-m.true, c.own_normal-v.ensures, c.flip-d.ensures)

pub returns : goal.returns
unfolding signed_of of_bits
returns c =
    rw (← c.is_clear.ensures, c.if-is_clear.false, c.if-m.false, c.own_normal-v.ensures)
