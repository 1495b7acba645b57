-- `accept::refusals::area_tested` meets its contract. Assumes nothing.
use lib.Ieee.{of_bits}
use Rattle.accept.specs.Verdicts.{edges_verdict}
use Rattle.accept.proofs.refusals.area_tested.Goals as goal

pub returns-then-a : goal.returns-then-a
unfolding edges_verdict of_bits
returns-then-a c = rw c.if-a.true

pub returns : goal.returns
unfolding edges_verdict of_bits
returns c = rw c.if-a.false
