-- `geometry::polygon::perimeter` meets its contract. Assumes nothing.
use mathlib.Core.Path.{sym, ◌∙◌}
use Rattle.accept.proofs.TestLaws.{given_passed, given_refused}
use Rattle.geometry.specs.Answers.{perimeter_answer}
use Rattle.geometry.proofs.polygon.perimeter.Goals as goal

pub returns : goal.returns
unfolding perimeter_answer
returns c = rw (given_passed (sym c.outline_tested.ensures ∙ c.in_ok-outline_tested.was), c.length.ensures)

pub returns-in_err-outline_tested : goal.returns-in_err-outline_tested
unfolding perimeter_answer
returns-in_err-outline_tested c =
    given_refused (sym c.outline_tested.ensures ∙ c.in_err-outline_tested.was) c.from_residual.ensures.1 _
