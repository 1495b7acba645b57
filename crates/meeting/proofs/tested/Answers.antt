-- `meeting::tested` meets its contract. Assumes nothing.
use Rattle.std.proofs.Common.{arith}
use Rattle.std.proofs.lemmas.Grind.{common_steps}
use Rattle.accept.specs.Refusals.{◌refusing◌when◌}
use Rattle.meeting.proofs.tested.Goals as goal

pub returns : goal.returns
unfolding ◌refusing◌when◌
returns c = grind (arith, common_steps)

pub returns-in_err-boxes_tested : goal.returns-in_err-boxes_tested
unfolding ◌refusing◌when◌
returns-in_err-boxes_tested c = grind (arith, common_steps)

pub returns-in_err-refuse_when : goal.returns-in_err-refuse_when
unfolding ◌refusing◌when◌
returns-in_err-refuse_when c = grind (arith, common_steps)

pub returns-in_err-refuse_when-2 : goal.returns-in_err-refuse_when-2
unfolding ◌refusing◌when◌
returns-in_err-refuse_when-2 c = grind (arith, common_steps)
