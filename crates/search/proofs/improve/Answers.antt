-- `search::improve` meets its contract. Assumes nothing.
use Rattle.search.specs.Walk.{kept_with}
use Rattle.search.proofs.improve.Goals as goal

pub returns-then-d-best : goal.returns-then-d-best
unfolding kept_with
returns-then-d-best c = rw c.if-d-best.true

pub returns : goal.returns
unfolding kept_with
returns c = rw c.if-d-best.false
