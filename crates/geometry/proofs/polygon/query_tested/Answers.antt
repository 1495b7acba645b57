-- `geometry::polygon::query_tested` meets its contract. Assumes nothing.
use mathlib.Core.Path.{sym, ◌∙◌}
use Rattle.accept.proofs.TestLaws.{refusing_refused, refusing_next}
use Rattle.geometry.specs.Answers.{outline_query_tested}
use Rattle.geometry.proofs.polygon.query_tested.Goals as goal

pub returns : goal.returns
unfolding outline_query_tested
returns c =
    refusing_next _ _ (sym c.outline_tested.ensures ∙ c.in_ok-outline_tested.was) (rw (← c.point_in_field.ensures) c.refuse_when.ensures)

pub returns-in_err-outline_tested : goal.returns-in_err-outline_tested
unfolding outline_query_tested
returns-in_err-outline_tested c =
    refusing_refused (sym c.outline_tested.ensures ∙ c.in_err-outline_tested.was) c.from_residual.ensures.1 _ _
