-- `set::refusals::test_at` meets its contract. Assumes nothing.
use Rattle.set.specs.OnePass.{test_at}
use borrow.Author.Tests.{ne_eqb}
use Rattle.set.proofs.refusals.test_at.Goals as goal

pub returns-in-5 : goal.returns-in-5
unfolding test_at
returns-in-5 c = rw c.in-5.is

pub returns-in-6 : goal.returns-in-6
unfolding test_at
returns-in-6 c = rw c.in-6.is

pub returns-in-7 : goal.returns-in-7
unfolding test_at
returns-in-7 c = rw c.in-7.is

pub returns-in-8 : goal.returns-in-8
unfolding test_at
returns-in-8 c = rw c.in-8.is

pub returns-in-9 : goal.returns-in-9
unfolding test_at
returns-in-9 c = rw c.in-9.is

pub returns-in_default : goal.returns-in_default
unfolding test_at
returns-in_default c =
    let n = c.in_default.in_default-own.rest in
    rw (ne_eqb _ _ n.0.0.0.0.1, ne_eqb _ _ n.0.0.0.1, ne_eqb _ _ n.0.0.1, ne_eqb _ _ n.0.1, ne_eqb _ _ n.1)
