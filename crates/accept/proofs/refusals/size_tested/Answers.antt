-- `accept::refusals::size_tested` meets its contract. Assumes nothing.
use borrow.Author.Tests.{lt-ltb, le-ltb}
use Rattle.accept.specs.Refusals.{size_tested}
use Rattle.accept.proofs.refusals.size_tested.Goals as goal

pub returns-then-n-lt3 : goal.returns-then-n-lt3
unfolding size_tested
returns-then-n-lt3 c = rw (lt-ltb _ _ c.if-n-lt3.true)

pub returns-then-n-gt4096 : goal.returns-then-n-gt4096
unfolding size_tested
returns-then-n-gt4096 c = rw (le-ltb _ _ c.if-n-lt3.false, lt-ltb _ _ c.if-n-gt4096.true)

pub returns : goal.returns
unfolding size_tested
returns c = rw (le-ltb _ _ c.if-n-lt3.false, le-ltb _ _ c.if-n-gt4096.false)
