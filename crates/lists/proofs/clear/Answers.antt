-- `lists::clear` meets its contract. Assumes nothing.
use Rattle.std.proofs.Common.{arith}
use Rattle.std.proofs.lemmas.List.{length-take-le}
use Rattle.lists.proofs.FrontLaws.{next_place, all_places}
use Rattle.lists.proofs.clear.Goals as goal

pub loop-place-preserved : goal.loop-place-preserved
loop-place-preserved g c = next_place c.args.x _ _ _ c.loop-place.invariant c.loop-place-test.true

pub returns : goal.returns
returns g c =
    let m = length-take-le c.args.n c.args.s.now c.requires in
    all_places c.args.x _ _ _ _ c.requires c.loop-place.invariant (omega (arith, m))
