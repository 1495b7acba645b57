-- `fill::cell::summed` meets its contract. Assumes nothing.
use mathlib.Core.Path.{◌≡◌, sym, ◌∙◌}
use mathlib.Core.Bool.{true, false}
use native.Mathlib.Omega.{arith}
use borrow.Author.Tests.{lt-ltb}
use Rattle.clip.proofs.StageLaws.{short}
use Rattle.clip.proofs.HalvesLaws.{half_fits, same_lines}
use Rattle.clip.specs.Lent.{half_in}
use Rattle.fill.proofs.cell.summed.Goals as goal

pub returns-then-half-n : goal.returns-then-half-n
returns-then-half-n c = λ long es h. let e : long ≡ true = sym h.flag ∙ lt-ltb _ _ c.if-half-n.true in rw e

pub slice_bounds-sum-end : goal.slice_bounds-sum-end
slice_bounds-sum-end c = half_fits c.args.w.now (half_in c.args.w.now) c.args.c.n _ c.args.c.second (omega arith) c.if-half-n.false c.place-from.ensures

pub returns : goal.returns
returns c = λ long es h.
    let a = c.args in
    let e : long ≡ false = short h c.if-half-n.false in
    let l = half_fits a.w.now (half_in a.w.now) a.c.n _ a.c.second (omega arith) c.if-half-n.false c.place-from.ensures in
    rw (e, c.sum.ensures, same_lines a.w.now c.place-from.result a.c.n l, c.place-from.ensures, (h.held e).list c.if-half-n.false)
