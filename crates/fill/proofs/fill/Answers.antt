-- `fill::fill` meets its contract. Assumes nothing.
use mathlib.Core.Path.{sym, ◌∙◌}
use Rattle.accept.proofs.TestLaws.{given_passed, given_failed, handed_on}
use Rattle.fill.specs.Answers.{fill_outcome}
use Rattle.fill.proofs.fill.Goals as goal

pub fill_in-requires : goal.fill_in-requires
fill_in-requires c =
    (sym c.fill_tested.ensures ∙ c.in_ok-fill_tested.was, c.all_held.ensures, c.box_held.ensures)

pub returns : goal.returns
unfolding fill_outcome
returns c =
    let e = sym c.fill_tested.ensures ∙ c.in_ok-fill_tested.was in
    rw (given_passed e) c.fill_in.ensures

pub returns-in_err-fill_tested : goal.returns-in_err-fill_tested
unfolding fill_outcome
returns-in_err-fill_tested c =
    let e = sym c.fill_tested.ensures ∙ c.in_err-fill_tested.was in
    rw (given_failed e, handed_on c.from_residual.ensures.1)
