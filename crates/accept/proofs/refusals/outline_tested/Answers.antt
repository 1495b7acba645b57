-- `accept::refusals::outline_tested` meets its contract. Assumes nothing.
use Rattle.accept.proofs.VerdictLaws.{test_of_verdict}
use Rattle.accept.proofs.refusals.outline_tested.Goals as goal

pub returns : goal.returns
returns c = rw (c.test_of.ensures, c.outline_verdict.ensures) (test_of_verdict _ _)
