-- `viskunor::sets::vk_set_nearest_many` meets its contract. Assumes nothing.
use Prim.Native.Nat.{ℕ}
use Rattle.accept.specs.Refusals.{Answer}
use mathlib.Core.Path.{ap}
use Rattle.accept.specs.Answers.{Outcome, count_fields, in_fields}
use Rattle.many.specs.Answers.{ManyLent, many_call}
use Rattle.viskunor.proofs.sets.vk_set_nearest_many.Goals as goal

pub returns : goal.returns
unfolding many_call
returns c =
    rw c.fields-number.ensures (ap (λ (o : Outcome (Answer ℕ) ManyLent). in_fields count_fields o) c.nearest_many-answer.ensures)
