-- `number::signs::abs` meets its contract: std's is the same by cases. Assumes nothing.
use Rattle.std.proofs.Common.{◌∙◌}
use Rattle.number.proofs.SignLaws.{abs_std}
use Rattle.number.proofs.signs.abs.Goals as goal

pub returns : goal.returns
returns c = c.abs.ensures.value ∙ abs_std c.args.x
