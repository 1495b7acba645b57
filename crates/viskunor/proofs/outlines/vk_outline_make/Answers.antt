-- `viskunor::outlines::vk_outline_make` meets its contract. Assumes nothing.
use mathlib.Core.Path.{ap}
use Rattle.accept.specs.Answers.{count_fields, in_fields}
use Rattle.viskunor.proofs.outlines.vk_outline_make.Goals as goal

pub returns : goal.returns
returns c = rw c.fields-number.ensures (ap (in_fields count_fields) c.new.ensures)
