-- `many::tested` meets its contract. Assumes nothing.
use Rattle.std.proofs.Common.{arith}
use Rattle.std.proofs.lemmas.Grind.{common_steps}
use Rattle.accept.specs.Refusals.{◌refusing◌when◌}
use Rattle.many.specs.Answers.{many_tested}
use Rattle.many.proofs.tested.Goals as goal

pub returns : goal.returns
unfolding many_tested ◌refusing◌when◌
returns c = grind (arith, common_steps)

pub returns-in_err-set_tested : goal.returns-in_err-set_tested
unfolding many_tested ◌refusing◌when◌
returns-in_err-set_tested c = grind (arith, common_steps)

pub returns-in_err-refuse_when : goal.returns-in_err-refuse_when
unfolding many_tested ◌refusing◌when◌
returns-in_err-refuse_when c = grind (arith, common_steps)

pub returns-in_err-refuse_when-2 : goal.returns-in_err-refuse_when-2
unfolding many_tested ◌refusing◌when◌
returns-in_err-refuse_when-2 c = grind (arith, common_steps)

pub returns-in_err-refuse_when-3 : goal.returns-in_err-refuse_when-3
unfolding many_tested ◌refusing◌when◌
returns-in_err-refuse_when-3 c = grind (arith, common_steps)
