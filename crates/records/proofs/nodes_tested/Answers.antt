-- `records::nodes_tested` meets its contract. Assumes nothing.
use Rattle.std.proofs.Common.{arith}
use Rattle.std.proofs.lemmas.Grind.{common_steps}
use Rattle.accept.specs.Refusals.{◌refusing◌when◌}
use Rattle.records.specs.Records.{nodes_tested}
use Rattle.records.proofs.nodes_tested.Goals as goal

pub returns : goal.returns
unfolding nodes_tested ◌refusing◌when◌
returns c = grind (arith, common_steps)

pub returns-in_err-boxes_tested : goal.returns-in_err-boxes_tested
unfolding nodes_tested ◌refusing◌when◌
returns-in_err-boxes_tested c = grind (arith, common_steps)

pub returns-in_err-refuse_when : goal.returns-in_err-refuse_when
unfolding nodes_tested ◌refusing◌when◌
returns-in_err-refuse_when c = grind (arith, common_steps)
