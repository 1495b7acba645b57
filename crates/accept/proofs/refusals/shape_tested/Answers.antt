-- `accept::refusals::shape_tested` meets its contract. Assumes nothing.
use mathlib.Core.Path.{sym, ◌∙◌}
use borrow.Author.Tests.{eq-eqb, ne_eqb}
use Rattle.accept.specs.Refusals.{given, shape_tested}
use Rattle.accept.proofs.TestLaws.{given_passed, given_failed, given_refused, sized}
use Rattle.accept.proofs.refusals.shape_tested.Goals as goal

pub returns-then-v-eq1 : goal.returns-then-v-eq1
unfolding shape_tested given
returns-then-v-eq1 c = rw (eq-eqb _ _ c.if-v-eq1.true)

pub returns-in_err-size_tested : goal.returns-in_err-size_tested
returns-in_err-size_tested c =
    let e = sized c.args.v.now (ne_eqb _ _ c.if-v-eq1.false) in
    given_refused (e ∙ given_failed (sym c.size_tested.ensures ∙ c.in_err-size_tested.was) _ _) c.from_residual.ensures.1 _

pub returns : goal.returns
returns c =
    let e = sized c.args.v.now (ne_eqb _ _ c.if-v-eq1.false) in
    rw (e ∙ given_passed (sym c.size_tested.ensures ∙ c.in_ok-size_tested.was) _ _, c.values_tested.ensures)
