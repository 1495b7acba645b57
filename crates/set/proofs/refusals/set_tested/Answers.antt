-- `set::refusals::set_tested` meets its contract. Assumes nothing.
use mathlib.Core.Path.{sym, ◌∙◌}
use Rattle.accept.proofs.TestLaws.{handed_on}
use Rattle.accept.specs.Refusals.{◌refusing◌when◌}
use Rattle.set.specs.Tests.{outlines_tested, set_tested}
use Rattle.set.proofs.OnePassLaws.{least_tests}
use Rattle.set.proofs.SetLaws.{lists_fit, fit_within}
use Rattle.set.proofs.refusals.set_tested.Goals as goal

pub least_failed-requires : goal.least_failed-requires
least_failed-requires c =
    let a = c.args in
    fit_within a.set.now.vertices.now a.set.now.counts.now (lists_fit a.set.now.vertices.now a.set.now.counts.now (sym c.lists_tested.ensures ∙ c.in_ok-lists_tested.was))

pub returns : goal.returns
unfolding set_tested
returns c =
    rw (← c.lists_tested.ensures, c.in_ok-lists_tested.was, c.test_at.ensures, c.least_failed.ensures) (least_tests _)

pub returns-in_err-lists_tested : goal.returns-in_err-lists_tested
unfolding set_tested outlines_tested ◌refusing◌when◌
returns-in_err-lists_tested c = rw (← c.lists_tested.ensures, c.in_err-lists_tested.was, handed_on c.from_residual.ensures.1)
