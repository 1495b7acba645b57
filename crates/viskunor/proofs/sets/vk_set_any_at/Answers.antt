-- `viskunor::sets::vk_set_any_at` meets its contract. Assumes nothing.
use Prim.Native.Nat.{ℕ}
use Rattle.accept.specs.Refusals.{Answer}
use mathlib.Core.Path.{ap}
use Rattle.accept.specs.Answers.{Outcome, count_fields, in_fields}
use Rattle.index.specs.Buffer.{IndexBuffer}
use Rattle.viskunor.proofs.sets.vk_set_any_at.Goals as goal

pub returns : goal.returns
returns c =
    rw c.fields-number.ensures (ap (λ (o : Outcome (Answer ℕ) IndexBuffer). in_fields count_fields o) c.any_at-answer.ensures)
