-- `index::refusals::any_unfit` meets its contract: what was found so far and the boxes that are left give the answer. Assumes nothing.
use Rattle.boundary.specs.Boxes.{box_fits}
use Rattle.boxes.specs.BoxLists.{boxes_of}
use Rattle.lists.specs.Lists.{any}
use Rattle.lists.proofs.FoldLaws.{fold_run_next, fold_run_end}
use Rattle.boundary.specs.declared.Bounds.{Bounds}
use native.Mathlib.Nat.{sub-zero}
use mathlib.Core.Bool.{Bool, not, ◌||◌}
use mathlib.Core.Path.{sym, ◌∙◌}
use Rattle.index.proofs.refusals.any_unfit.Goals as goal

abbrev step : Bool → Bounds → Bool
step f b = f || not (box_fits b)

pub loop-i-init : goal.loop-i-init
unfolding any boxes_of
loop-i-init c = rw sub-zero

pub loop-i-preserved : goal.loop-i-preserved
loop-i-preserved c = rw (c.box_fits.ensures, c.box_at.ensures) (sym (fold_run_next step _ _ _ _ c.loop-i-test.true) ∙ c.loop-i.invariant)

pub returns : goal.returns
returns c = sym (fold_run_end step _ _ _ _ c.loop-i-test.false) ∙ c.loop-i.invariant
