-- `fill::tests::fill_tested` meets its contract. Assumes nothing.
use Rattle.std.proofs.Common.{arith}
use Rattle.std.proofs.lemmas.Grind.{common_steps}
use Rattle.accept.specs.Refusals.{◌refusing◌when◌}
use Rattle.fill.specs.Answers.{fill_tested}
use Rattle.fill.proofs.tests.fill_tested.Goals as goal

pub returns : goal.returns
unfolding fill_tested ◌refusing◌when◌
returns c = grind (arith, common_steps)

pub returns-in_err-outline_tested : goal.returns-in_err-outline_tested
unfolding fill_tested ◌refusing◌when◌
returns-in_err-outline_tested c = grind (arith, common_steps)

pub returns-in_err-refuse_when : goal.returns-in_err-refuse_when
unfolding fill_tested ◌refusing◌when◌
returns-in_err-refuse_when c = grind (arith, common_steps)
