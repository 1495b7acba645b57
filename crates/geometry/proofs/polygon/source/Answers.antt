-- `geometry::polygon::source` meets its contract. Assumes nothing.
use borrow.Author.Rules.{rules}
use Rattle.geometry.proofs.polygon.source.Goals as goal

pub returns-then-back : goal.returns-then-back
returns-then-back c = (rw c.if-back.true, search rules)

pub returns-else-back : goal.returns-else-back
returns-else-back c = (rw c.if-back.false, search rules)
