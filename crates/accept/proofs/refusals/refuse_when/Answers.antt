-- `accept::refusals::refuse_when` meets its contract. Assumes nothing.
use Rattle.accept.specs.Refusals.{◌refusing◌when◌}
use Rattle.accept.proofs.refusals.refuse_when.Goals as goal

pub returns-then-fails : goal.returns-then-fails
unfolding ◌refusing◌when◌
returns-then-fails c = rw c.if-fails.true

pub returns-else-fails : goal.returns-else-fails
unfolding ◌refusing◌when◌
returns-else-fails c = rw c.if-fails.false
