-- `many::any_bad_point` meets its contract: what was found so far and the points that are left give the answer. Assumes nothing.
use mathlib.Core.Path.{sym, ◌∙◌}
use mathlib.Core.Bool.{Bool, not, ◌||◌}
use native.Mathlib.Nat.{sub-zero}
use Rattle.boundary.specs.declared.Point.{Point}
use Rattle.boundary.specs.Boxes.{point_in_field}
use Rattle.boundary.specs.Outline.{vertices}
use Rattle.lists.specs.Lists.{any}
use Rattle.lists.proofs.FoldLaws.{fold_run_next, fold_run_end}
use Rattle.many.proofs.any_bad_point.Goals as goal

abbrev step : Bool → Point → Bool
step f p = f || not (point_in_field p)

pub loop-i-init : goal.loop-i-init
unfolding any vertices
loop-i-init c = rw sub-zero

pub loop-i-preserved : goal.loop-i-preserved
loop-i-preserved c = rw (c.point_in_field.ensures, c.vertex_at.ensures) (sym (fold_run_next step _ _ _ _ c.loop-i-test.true) ∙ c.loop-i.invariant)

pub returns : goal.returns
returns c = sym (fold_run_end step _ _ _ _ c.loop-i-test.false) ∙ c.loop-i.invariant
