-- `stream::asked_for` meets its contract: the type is the one asked for, or it is not. Assumes nothing.
use borrow.Author.Tests.{eq-eqb, ne_eqb}
use Rattle.stream.proofs.asked_for.Goals as goal

pub returns-then-t-wanted : goal.returns-then-t-wanted
returns-then-t-wanted c = rw (eq-eqb _ _ c.if-t-wanted.true)

pub returns-else-t-wanted : goal.returns-else-t-wanted
returns-else-t-wanted c = rw (ne_eqb _ _ c.if-t-wanted.false)
