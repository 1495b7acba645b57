-- `ellipse::ellipse_nearest` meets its contract. Assumes nothing.
use mathlib.Core.Path.{sym, ◌∙◌}
use Rattle.accept.proofs.TestLaws.{given_passed, given_refused}
use Rattle.ellipse.specs.Ellipse.{ellipse_answer}
use Rattle.ellipse.proofs.ellipse_nearest.Goals as goal

pub returns : goal.returns
unfolding ellipse_answer
returns c = rw (given_passed (sym c.ellipse_tested.ensures ∙ c.in_ok-ellipse_tested.was), c.nearest-near.ensures)

pub returns-in_err-ellipse_tested : goal.returns-in_err-ellipse_tested
unfolding ellipse_answer
returns-in_err-ellipse_tested c =
    given_refused (sym c.ellipse_tested.ensures ∙ c.in_err-ellipse_tested.was) c.from_residual.ensures.1 _
