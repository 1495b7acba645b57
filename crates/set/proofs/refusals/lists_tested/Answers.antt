-- `set::refusals::lists_tested` meets its contract. Assumes nothing.
use Rattle.std.proofs.Common.{arith, rules}
use Rattle.std.proofs.lemmas.Grind.{common_steps}
use lib.Dec.{ltb}
use Rattle.accept.specs.Refusals.{◌refusing◌when◌}
use Rattle.set.specs.Tests.{lists_tested}
use Rattle.set.proofs.refusals.lists_tested.Goals as goal

pub returns : goal.returns
unfolding lists_tested ◌refusing◌when◌
returns c =
    let few = c.any-few.ensures (λ n. ltb n 3) (λ n b e. search rules) in
    let many = c.any-many.ensures (λ n. ltb 4096 n) (λ n b e. search rules) in
    grind (arith, common_steps)

pub returns-in_err-refuse_when : goal.returns-in_err-refuse_when
unfolding lists_tested ◌refusing◌when◌
returns-in_err-refuse_when c = grind (arith, common_steps)

pub returns-in_err-refuse_when-2 : goal.returns-in_err-refuse_when-2
unfolding lists_tested ◌refusing◌when◌
returns-in_err-refuse_when-2 c = grind (arith, common_steps)

pub returns-in_err-refuse_when-3 : goal.returns-in_err-refuse_when-3
unfolding lists_tested ◌refusing◌when◌
returns-in_err-refuse_when-3 c =
    let few = c.any-few.ensures (λ n. ltb n 3) (λ n b e. search rules) in
    grind (arith, common_steps)
