-- `geometry::polygon::new` meets its contract. Assumes nothing.
use mathlib.Core.Path.{refl, sym, ◌∙◌}
use native.Mathlib.Omega.{arith}
use borrow.Author.Tests.{lt-ltb, le-ltb}
use lib.Ieee.{of_bits}
use lib.Seq.{length-take-le}
use Rattle.accept.specs.Refusals.{◌refusing◌when◌, given}
use Rattle.geometry.specs.Making.{kept, make_tested, made_of, make_outcome}
use Rattle.accept.proofs.TestLaws.{passed_size, handed_on}
use Rattle.accept.proofs.VerdictLaws.{area_passed, turned_failed}
use Rattle.geometry.proofs.polygon.new.Goals as goal

pub slice_bounds-kept-end : goal.slice_bounds-kept-end
slice_bounds-kept-end c = sym (length-take-le _ _ c.kept_count-m.ensures.1)

pub returns-then-out-v : goal.returns-then-out-v
unfolding make_outcome make_tested ◌refusing◌when◌ kept
returns-then-out-v c =
    let k = c.kept_count-m.ensures.0 in
    let e = (area_passed _ _ _ (sym c.shape_tested.ensures ∙ c.in_ok-area.was)).0 in
    let s = lt-ltb _ _ c.if-out-v.true in
    rw (← k, e, s) (unfold given in refl)

pub write-requires : goal.write-requires
write-requires c =
    let k = c.kept_count-m.ensures.1 in
    let e = length-take-le _ _ k in
    let room = c.if-out-v.false in
    omega arith

pub overflow_cast-result : goal.overflow_cast-result
overflow_cast-result c =
    let k = c.kept_count-m.ensures.1 in
    let l = passed_size _ (area_passed _ _ _ (sym c.shape_tested.ensures ∙ c.in_ok-area.was)).0 in
    omega (arith, rw (length-take-le _ _ k) at l)

pub returns : goal.returns
unfolding make_outcome make_tested made_of ◌refusing◌when◌ kept of_bits
returns c =
    let d = c in
    let k = d.kept_count-m.ensures in
    let e = area_passed _ _ _ (sym d.shape_tested.ensures ∙ c.in_ok-area.was) in
    let s = le-ltb _ _ c.if-out-v.false in
    rw (← k.0, e.0, s, length-take-le _ _ k.1, e.1, c.write.ensures) (unfold given in refl)

pub returns-in_err-area : goal.returns-in_err-area
unfolding make_outcome make_tested ◌refusing◌when◌ kept
returns-in_err-area c =
    let k = c.kept_count-m.ensures.0 in
    let e = turned_failed _ _ _ (sym c.shape_tested.ensures ∙ c.in_err-area.was) in
    rw (← k, e, handed_on c.from_residual.ensures.1) (unfold given in refl)
