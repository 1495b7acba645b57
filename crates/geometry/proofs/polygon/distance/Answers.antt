-- `geometry::polygon::distance` meets its contract. Assumes nothing.
use mathlib.Core.Path.{sym, ◌∙◌}
use borrow.Author.Tests.{not-false}
use Rattle.geometry.specs.Answers.{outline_query_tested, distance_answer}
use Rattle.accept.proofs.TestLaws.{accepted_field, refusing_passed, given_passed, given_refused}
use Rattle.geometry.proofs.polygon.distance.Goals as goal

pub nearest_edge-edge-requires : goal.nearest_edge-edge-requires
unfolding outline_query_tested
nearest_edge-edge-requires c =
    let q = refusing_passed _ _ _ (sym c.query_tested.ensures ∙ c.in_ok-query_tested.was) in
    let v = accepted_field _ q.0 in
    (v.0, not-false _ q.1, v.1)

pub distance-requires : goal.distance-requires
unfolding outline_query_tested
distance-requires c =
    let q = refusing_passed _ _ _ (sym c.query_tested.ensures ∙ c.in_ok-query_tested.was) in
    let v = accepted_field _ q.0 in
    (v.0, not-false _ q.1, c.nearest_edge-edge.ensures)

pub returns : goal.returns
unfolding distance_answer
returns c =
    rw (given_passed (sym c.query_tested.ensures ∙ c.in_ok-query_tested.was), c.distance.ensures, c.holds-inside.ensures)

pub returns-in_err-query_tested : goal.returns-in_err-query_tested
unfolding distance_answer
returns-in_err-query_tested c =
    given_refused (sym c.query_tested.ensures ∙ c.in_err-query_tested.was) c.from_residual.ensures.1 _
