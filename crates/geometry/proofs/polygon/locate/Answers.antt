-- `geometry::polygon::locate` meets its contract. Assumes nothing.
use mathlib.Core.Path.{sym, ◌∙◌}
use Rattle.accept.proofs.TestLaws.{given_passed, given_refused}
use Rattle.geometry.specs.Answers.{locate_answer}
use Rattle.geometry.proofs.polygon.locate.Goals as goal

pub returns : goal.returns
unfolding locate_answer
returns c = rw (given_passed (sym c.query_tested.ensures ∙ c.in_ok-query_tested.was), c.from.ensures, c.location.ensures)

pub returns-in_err-query_tested : goal.returns-in_err-query_tested
unfolding locate_answer
returns-in_err-query_tested c =
    given_refused (sym c.query_tested.ensures ∙ c.in_err-query_tested.was) c.from_residual.ensures.1 _
