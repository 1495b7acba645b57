-- `geometry::polygon::bounds` meets its contract. Assumes nothing.
use mathlib.Core.Path.{sym, ◌∙◌}
use Rattle.accept.proofs.TestLaws.{given_passed, given_refused}
use Rattle.geometry.specs.Answers.{bounds_answer}
use Rattle.geometry.proofs.polygon.bounds.Goals as goal

pub returns : goal.returns
unfolding bounds_answer
returns c = rw (given_passed (sym c.outline_tested.ensures ∙ c.in_ok-outline_tested.was), c.box_of.ensures)

pub returns-in_err-outline_tested : goal.returns-in_err-outline_tested
unfolding bounds_answer
returns-in_err-outline_tested c =
    given_refused (sym c.outline_tested.ensures ∙ c.in_err-outline_tested.was) c.from_residual.ensures.1 _
