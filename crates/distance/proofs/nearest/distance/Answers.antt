-- `distance::nearest::distance` meets its contract. Assumes nothing.
use mathlib.Core.Path.{ap}
use Rattle.boundary.specs.declared.Near.{Near}
use Rattle.distance.specs.Nearest.{signed_of}
use Rattle.boundary.proofs.FieldLaws.{edge_in_field_lem}
use Rattle.distance.proofs.SearchLaws.{found_near, found_foot}
use Rattle.distance.proofs.nearest.distance.Goals as goal

pub signed-requires : goal.signed-requires
signed-requires c =
    let f = c.requires.2 in
    (rw c.edge_at.ensures (edge_in_field_lem c.args.v.now c.requires.0 _ f.edge), c.requires.1, rw c.edge_at.ensures (found_foot _ _ _ f.found))

pub returns : goal.returns
returns c =
    let s = c in
    let f = s.requires.2 in
    let a = s.args in
    rw (c.signed.ensures, c.hypot-m.ensures, c.edge_at.ensures, ← f.nearest) (ap (λ (k : Near). signed_of k a.p a.inside) (found_near _ _ _ f.found))
