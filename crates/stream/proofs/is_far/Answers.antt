-- `stream::is_far` meets its contract: beyond the reach on either side. Assumes nothing.
use Rattle.stream.proofs.StepLaws.{small_same, far_is}
use Rattle.stream.proofs.is_far.Goals as goal

pub returns : goal.returns
returns c = rw (small_same c.args.z c.requires) (far_is c.args.z)
