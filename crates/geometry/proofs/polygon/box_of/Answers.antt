-- `geometry::polygon::box_of` meets its contract: the box so far and the vertices that are left give the box of all. Assumes nothing.
use mathlib.Core.Path.{sym, ◌∙◌}
use native.Mathlib.Nat.{sub-zero}
use Rattle.boundary.specs.Outline.{vertices}
use Rattle.lists.proofs.FoldLaws.{fold_run_next, fold_run_end}
use Rattle.boundary.specs.Boxes.{stretched}
use Rattle.geometry.specs.Polygon.{bounds_of}
use Rattle.geometry.proofs.polygon.box_of.Goals as goal

pub loop-i-init : goal.loop-i-init
unfolding bounds_of vertices
loop-i-init c = rw (c.empty_box-b.ensures, sub-zero)

pub loop-i-preserved : goal.loop-i-preserved
loop-i-preserved c = rw (c.stretch-b.ensures, c.vertex_at.ensures) (sym (fold_run_next stretched _ _ _ _ c.loop-i-test.true) ∙ c.loop-i.invariant)

pub returns : goal.returns
returns c = sym (fold_run_end stretched _ _ _ _ c.loop-i-test.false) ∙ c.loop-i.invariant
