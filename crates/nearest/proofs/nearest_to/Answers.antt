-- `nearest::nearest_to` meets its contract. Assumes nothing.
use mathlib.Core.Path.{ap}
use Rattle.std.proofs.Common.{Option, Ok}
use Rattle.accept.specs.Refusals.{Answer}
use Rattle.accept.specs.Answers.{Outcome, in_fields}
use Rattle.accept.proofs.TestLaws.{handed_on}
use Rattle.index.specs.Buffer.{IndexBuffer}
use Rattle.search.specs.declared.Best.{Best}
use mathlib.Core.Path.{sym, ◌∙◌}
use Rattle.set.proofs.AskLaws.{query_passed, query_worked, query_refused}
use Rattle.nearest.specs.Answers.{nearest_outcome}
use Rattle.nearest.proofs.nearest_to.Goals as goal

abbrev found : Option Best → Answer (Option Best)
found b = Ok b

pub answered-requires : goal.answered-requires
answered-requires c =
    let r = query_passed _ _ _ _ (sym c.query_tested.ensures ∙ c.in_ok-query_tested.was) in
    (r.ready, r.point)

pub returns : goal.returns
unfolding nearest_outcome
returns c =
    ap (λ (o : Outcome (Option Best) IndexBuffer). in_fields found o) c.answered.ensures
    ∙ sym (query_worked _ _ _ _ _ _ (sym c.query_tested.ensures ∙ c.in_ok-query_tested.was))

pub returns-in_err-query_tested : goal.returns-in_err-query_tested
unfolding nearest_outcome
returns-in_err-query_tested c =
    rw (handed_on c.from_residual.ensures.1) (sym (query_refused _ _ _ _ _ _ (sym c.query_tested.ensures ∙ c.in_err-query_tested.was)))
