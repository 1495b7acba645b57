-- `tree::spans_of` meets its contract. Assumes nothing.
use Rattle.std.proofs.Common.{sym, ◌∙◌, arith}
use lib.Dec.{leb}
use Rattle.boundary.specs.Boxes.{hull, stretched}
use Rattle.lists.proofs.FoldLaws.{fold_drop_next, fold_drop_end}
use Rattle.sorts.proofs.PartLaws.{sort_sorted}
use Rattle.boxes.specs.BoxLists.{box_at, point_in}
use Rattle.tree.specs.Tree.{hull_of, spread_of}
use Rattle.tree.proofs.spans_of.Goals as goal

pub loop-k-init : goal.loop-k-init
unfolding hull_of spread_of
loop-k-init c =
    let s = sort_sorted leb _ c.requires in
    (rw (c.empty_box-none.ensures, s), rw (c.empty_box-none.ensures, s))

pub loop-k-preserved : goal.loop-k-preserved
loop-k-preserved c =
    let v = c.loop-k.invariant in
    let h = c.loop-k-test.true in
    let e = c.spanned-s.ensures in (
      rw e (sym (fold_drop_next (λ b j. hull b (box_at _ j)) 0 _ _ _ h) ∙ v.0),
      rw e (sym (fold_drop_next (λ b j. stretched b (point_in _ _ j)) 0 _ _ _ h) ∙ v.1),
    )

pub returns : goal.returns
returns c =
    let v = c.loop-k.invariant in
    (sym (fold_drop_end _ _ _ _ (omega arith) c.loop-k-test.false) ∙ v.0, sym (fold_drop_end _ _ _ _ (omega arith) c.loop-k-test.false) ∙ v.1)
