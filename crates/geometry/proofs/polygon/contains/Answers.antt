-- `geometry::polygon::contains` meets its contract. Assumes nothing.
use mathlib.Core.Path.{sym, ◌∙◌}
use Rattle.lists.proofs.BitLaws.{one_or_zero}
use Rattle.accept.proofs.TestLaws.{given_passed, given_refused}
use Rattle.geometry.specs.Answers.{contains_answer}
use Rattle.geometry.proofs.polygon.contains.Goals as goal

pub returns : goal.returns
unfolding contains_answer
returns c =
    rw (given_passed (sym c.query_tested.ensures ∙ c.in_ok-query_tested.was), c.from.ensures, c.holds.ensures, one_or_zero _)

pub returns-in_err-query_tested : goal.returns-in_err-query_tested
unfolding contains_answer
returns-in_err-query_tested c =
    given_refused (sym c.query_tested.ensures ∙ c.in_err-query_tested.was) c.from_residual.ensures.1 _
