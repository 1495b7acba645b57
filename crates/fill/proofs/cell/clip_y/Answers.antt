-- `fill::cell::clip_y` meets its contract. Assumes nothing.
use mathlib.Core.Path.{refl, ◌∙◌}
use Rattle.clip.proofs.StageLaws.{empty}
use Rattle.fill.specs.Fill.{low_y_of, high_y_of}
use Rattle.fill.proofs.cell.clip_y.Goals as goal

pub returns-then-b-eq0 : goal.returns-then-b-eq0
returns-then-b-eq0 c =
    let z = c.if-b-eq0.true in
    let b = c.args.c in
    (refl, refl, λ long es h. empty (empty h (low_y_of b) z) (high_y_of b) z)

pub returns : goal.returns
returns c =
    let first = rw c.side.ensures at c.clip-d.ensures in
    let second = rw (c.side-2.ensures, first.same) at c.clip.ensures in
    (second.same ∙ first.same, second.rest ∙ first.rest, λ long es h. second.staged _ _ (first.staged long es h))
