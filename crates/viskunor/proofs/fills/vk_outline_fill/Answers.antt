-- `viskunor::fills::vk_outline_fill` meets its contract. Assumes nothing.
use mathlib.Core.Path.{ap}
use Rattle.accept.specs.Answers.{measure_fields, in_fields}
use Rattle.viskunor.proofs.fills.vk_outline_fill.Goals as goal

pub returns : goal.returns
returns c = rw c.fields-number.ensures (ap (in_fields measure_fields) c.fill.ensures)
