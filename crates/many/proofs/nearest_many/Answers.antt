-- `many::nearest_many` meets its contract. Assumes nothing.
use mathlib.Core.Path.{sym, ◌∙◌}
use Rattle.accept.proofs.TestLaws.{handed_on, given_passed, given_failed}
use Rattle.many.specs.Answers.{many_outcome}
use Rattle.many.proofs.ManyLaws.{many_ready}
use Rattle.many.proofs.nearest_many.Goals as goal

pub answered-requires : goal.answered-requires
answered-requires c = many_ready _ _ _ _ (sym c.tested.ensures ∙ c.in_ok-tested.was)

pub returns : goal.returns
unfolding many_outcome
returns c = c.answered.ensures ∙ sym (given_passed (sym c.tested.ensures ∙ c.in_ok-tested.was) _ _)

pub returns-in_err-tested : goal.returns-in_err-tested
unfolding many_outcome
returns-in_err-tested c =
    rw (handed_on c.from_residual.ensures.1) (sym (given_failed (sym c.tested.ensures ∙ c.in_err-tested.was) _ _))
