-- `viskunor::sets::vk_set_nearest` meets its contract. Assumes nothing.
use Rattle.std.proofs.Common.{Option}
use Rattle.search.specs.declared.Best.{Best}
use Rattle.accept.specs.Refusals.{Answer}
use mathlib.Core.Path.{ap}
use Rattle.accept.specs.Answers.{Outcome, in_fields}
use Rattle.index.specs.Buffer.{IndexBuffer}
use Rattle.nearest.specs.Nearest.{nearest_fields}
use Rattle.nearest.specs.Answers.{nearest_call}
use Rattle.viskunor.proofs.sets.vk_set_nearest.Goals as goal

pub returns : goal.returns
unfolding nearest_call
returns c =
    rw c.nearest_fields-told.ensures (ap (λ (o : Outcome (Answer (Option Best)) IndexBuffer). in_fields nearest_fields o) c.nearest_to-answer.ensures)
