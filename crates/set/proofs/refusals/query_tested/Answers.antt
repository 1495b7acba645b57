-- `set::refusals::query_tested` meets its contract. Assumes nothing.
use Rattle.std.proofs.Common.{arith}
use Rattle.std.proofs.lemmas.Grind.{common_steps}
use Rattle.accept.specs.Refusals.{◌refusing◌when◌}
use Rattle.set.specs.Tests.{set_query_tested}
use Rattle.set.proofs.refusals.query_tested.Goals as goal

pub returns : goal.returns
unfolding set_query_tested ◌refusing◌when◌
returns c = grind (arith, common_steps)

pub returns-in_err-set_tested : goal.returns-in_err-set_tested
unfolding set_query_tested ◌refusing◌when◌
returns-in_err-set_tested c = grind (arith, common_steps)

pub returns-in_err-refuse_when : goal.returns-in_err-refuse_when
unfolding set_query_tested ◌refusing◌when◌
returns-in_err-refuse_when c = grind (arith, common_steps)
