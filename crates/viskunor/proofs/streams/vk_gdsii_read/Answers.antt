-- `viskunor::streams::vk_gdsii_read` meets its contract. Assumes nothing.
use mathlib.Core.Path.{ap}
use Rattle.accept.specs.Answers.{in_fields}
use Rattle.gdsii.specs.Answers.{read_fields}
use Rattle.viskunor.proofs.streams.vk_gdsii_read.Goals as goal

pub returns : goal.returns
returns c = rw c.fields-number.ensures (ap (in_fields read_fields) c.read.ensures)
