-- `index::refusals::boxes_tested` meets its contract. Assumes nothing.
use Rattle.std.proofs.Common.{arith}
use Rattle.std.proofs.lemmas.Grind.{common_steps}
use Rattle.accept.specs.Refusals.{◌refusing◌when◌}
use Rattle.index.specs.Answers.{boxes_tested}
use Rattle.index.proofs.refusals.boxes_tested.Goals as goal

pub any_unfit-requires : goal.any_unfit-requires
unfolding ◌refusing◌when◌
any_unfit-requires c = grind (arith, common_steps)

pub returns : goal.returns
unfolding boxes_tested ◌refusing◌when◌
returns c = grind (arith, common_steps)

pub returns-in_err-refuse_when : goal.returns-in_err-refuse_when
unfolding boxes_tested ◌refusing◌when◌
returns-in_err-refuse_when c = grind (arith, common_steps)

pub returns-in_err-refuse_when-2 : goal.returns-in_err-refuse_when-2
unfolding boxes_tested ◌refusing◌when◌
returns-in_err-refuse_when-2 c = grind (arith, common_steps)
