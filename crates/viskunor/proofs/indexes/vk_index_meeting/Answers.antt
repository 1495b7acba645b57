-- `viskunor::indexes::vk_index_meeting` meets its contract. Assumes nothing.
use mathlib.Core.Path.{ap}
use Rattle.accept.specs.Answers.{count_fields, in_fields}
use Rattle.viskunor.proofs.indexes.vk_index_meeting.Goals as goal

pub returns : goal.returns
returns c = rw c.fields-number.ensures (ap (in_fields count_fields) c.meeting-answer.ensures)
