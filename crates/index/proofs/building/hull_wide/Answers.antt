-- `index::building::hull_wide` meets its contract. Assumes nothing.
use Rattle.boxes.specs.BoxLists.{box_count, wide_at}
use Rattle.boundary.specs.Boxes.{hull}
use Rattle.tree.specs.Tree.{hull_of}
use Rattle.lists.proofs.FoldLaws.{fold_run_next, fold_run_end}
use Rattle.sorts.proofs.PartLaws.{sort_sorted, run_ascends}
use lib.Dec.{leb}
use native.Mathlib.Nat.{sub-zero}
use mathlib.Core.Path.{sym, ◌∙◌}
use Rattle.index.proofs.building.hull_wide.Goals as goal

pub loop-i-init : goal.loop-i-init
unfolding hull_of
loop-i-init c = rw (c.empty_box-b.ensures, sub-zero, sort_sorted leb _ (run_ascends 0 (box_count c.args.boxes.now)))

pub loop-i-preserved : goal.loop-i-preserved
unfolding wide_at
loop-i-preserved c =
    let v = c.loop-i.invariant in
    rw (c.around-b.ensures, c.widened.ensures, c.box_at.ensures) (sym (fold_run_next (λ b j. hull b (wide_at _ j)) (λ j. j) _ _ _ c.loop-i-test.true) ∙ v)

pub returns : goal.returns
returns c = sym (fold_run_end _ (λ j. j) _ _ _ c.loop-i-test.false) ∙ c.loop-i.invariant
