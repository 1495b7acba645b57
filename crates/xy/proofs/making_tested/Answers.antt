-- `xy::making_tested` meets its contract. Assumes nothing.
use mathlib.Core.Path.{refl, sym, ◌∙◌}
use borrow.Author.Rules.{rules}
use lib.Ieee.{of_bits}
use Rattle.accept.specs.Refusals.{given}
use Rattle.accept.proofs.TestLaws.{handed_on, passed_size}
use Rattle.accept.proofs.VerdictLaws.{area_passed, turned_failed}
use Rattle.xy.proofs.NumberLaws.{count_from}
use Rattle.xy.proofs.making_tested.Goals as goal

pub overflow_cast-result : goal.overflow_cast-result
overflow_cast-result c =
    let k = c.kept-kept.result in
    let l = passed_size _ (area_passed _ _ _ (sym c.shape_tested.ensures ∙ c.in_ok-area.was)).0 in
    let m = count_from k.s.now k.from k.n k.in_reach.within in
    search rules

pub returns : goal.returns
unfolding of_bits
returns c =
    let k = c.kept-kept.result in
    let e = area_passed _ _ _ (sym c.shape_tested.ensures ∙ c.in_ok-area.was) in
    let m = count_from k.s.now k.from k.n k.in_reach.within in
    rw (← c.kept-kept.ensures.0, e.0, e.1, m) (unfold given in refl)

pub returns-in_err-area : goal.returns-in_err-area
returns-in_err-area c =
    let e = turned_failed _ _ _ (sym c.shape_tested.ensures ∙ c.in_err-area.was) in
    rw (← c.kept-kept.ensures.0, e, handed_on c.from_residual.ensures.1) (unfold given in refl)
