-- `accept::refusals::outline_verdict` meets its contract. Assumes nothing.
use Rattle.accept.specs.Refusals.{shape_tested, outline_tested}
use Rattle.accept.proofs.refusals.outline_verdict.Goals as goal

pub returns : goal.returns
unfolding outline_tested
returns c =
    let v = c.args.v.now in
    c.sign_tested.ensures v (shape_tested v) c.shape_tested.ensures
