-- `any::any_at` meets its contract. Assumes nothing.
use Rattle.lists.proofs.BitLaws.{one_or_zero}
use Rattle.accept.proofs.TestLaws.{handed_on}
use Prim.Native.Nat.{ℕ}
use Rattle.std.proofs.Common.{Ok}
use Rattle.accept.specs.Refusals.{Answer}
use mathlib.Core.Path.{sym, ap, ◌∙◌}
use mathlib.Core.Bool.{Bool, cond}
use Rattle.accept.specs.Answers.{Outcome, in_fields}
use Rattle.index.specs.Buffer.{IndexBuffer}
use Rattle.set.proofs.AskLaws.{query_passed, query_worked, query_refused}
use Rattle.any.specs.Answers.{any_outcome}
use Rattle.any.proofs.any_at.Goals as goal

-- yes is 1, and no is 0
abbrev told : Bool → Answer ℕ
told b = Ok (cond b 1 0)

pub any_of-found-requires : goal.any_of-found-requires
any_of-found-requires c =
    (query_passed _ _ _ _ (sym c.query_tested.ensures ∙ c.in_ok-query_tested.was)).ready

pub returns : goal.returns
unfolding any_outcome
returns c =
    rw (c.from.ensures, one_or_zero) (ap (λ (o : Outcome Bool IndexBuffer). in_fields told o) c.any_of-found.ensures
    ∙ sym (query_worked _ _ _ _ _ _ (sym c.query_tested.ensures ∙ c.in_ok-query_tested.was)))

pub returns-in_err-query_tested : goal.returns-in_err-query_tested
unfolding any_outcome
returns-in_err-query_tested c =
    rw (handed_on c.from_residual.ensures.1) (sym (query_refused _ _ _ _ _ _ (sym c.query_tested.ensures ∙ c.in_err-query_tested.was)))
