-- `tree::hull_of` meets its contract: the box so far and the items that are left give the box of all. Assumes nothing.
use Rattle.std.proofs.Common.{sym, ◌∙◌, arith}
use lib.Dec.{leb}
use Rattle.boundary.specs.Boxes.{hull}
use Rattle.lists.proofs.FoldLaws.{fold_drop_next, fold_drop_end}
use Rattle.sorts.proofs.PartLaws.{sort_sorted}
use Rattle.boxes.specs.BoxLists.{box_at}
use Rattle.tree.specs.Tree.{hull_of}
use Rattle.tree.proofs.hull_of.Goals as goal

pub loop-k-init : goal.loop-k-init
unfolding hull_of
loop-k-init c = rw (c.empty_box-b.ensures, sort_sorted leb _ c.requires)

pub loop-k-preserved : goal.loop-k-preserved
loop-k-preserved c = rw (c.around-b.ensures, c.box_at.ensures) (sym (fold_drop_next (λ b j. hull b (box_at _ j)) 0 _ _ _ c.loop-k-test.true) ∙ c.loop-k.invariant)

pub returns : goal.returns
returns c = sym (fold_drop_end _ _ _ _ (omega arith) c.loop-k-test.false) ∙ c.loop-k.invariant
