-- `xy::shape_tested` meets its contract: the numbers are on the grid, so that the counts and the edges decide. Assumes nothing.
use mathlib.Core.Path.{sym, ap, ◌∙◌}
use Rattle.accept.specs.Refusals.{size_tested}
use Rattle.accept.proofs.TestLaws.{given_failed, given_refused, sized}
use Rattle.xy.proofs.NumberLaws.{count_from, numbers_on_grid}
use Rattle.xy.proofs.MakingLaws.{even_from, size_passed, grid_tested}
use Rattle.xy.proofs.shape_tested.Goals as goal

pub returns-in_err-size_tested : goal.returns-in_err-size_tested
returns-in_err-size_tested c =
    let p = c.args.p in
    let w = p.in_reach.within in
    let size = ap size_tested (count_from p.s.now p.from p.n w) ∙ sym c.size_tested.ensures ∙ c.in_err-size_tested.was in
    given_refused (sized _ (even_from p.s.now p.from p.n w) ∙ given_failed size _ _) c.from_residual.ensures.1 _

pub returns : goal.returns
returns c =
    let p = c.args.p in
    let w = p.in_reach.within in
    let size = ap size_tested (count_from p.s.now p.from p.n w) ∙ sym c.size_tested.ensures ∙ c.in_ok-size_tested.was in
    let passed = size_passed _ size in
    c.edges_tested.ensures ∙ grid_tested _ (even_from p.s.now p.from p.n w) passed.0 passed.1 (numbers_on_grid _ p.in_reach.near)
