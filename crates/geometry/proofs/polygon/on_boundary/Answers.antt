-- `geometry::polygon::on_boundary` meets its contract: what was found so far and the edges that are left give the answer. Assumes nothing.
use mathlib.Core.Path.{sym, ◌∙◌}
use mathlib.Core.Bool.{Bool, ◌||◌}
use native.Mathlib.Nat.{sub-zero}
use Rattle.boundary.specs.declared.Point.{Point}
use Rattle.boundary.specs.declared.Edge.{Edge}
use Rattle.lists.specs.Lists.{any}
use Rattle.boundary.specs.Outline.{edges}
use Rattle.lists.proofs.FoldLaws.{fold_run_next, fold_run_end}
use Rattle.geometry.specs.Polygon.{on_edge}
use Rattle.geometry.proofs.polygon.on_boundary.Goals as goal

abbrev step : Point → Bool → Edge → Bool
step p b e = b || on_edge p e

pub loop-i-init : goal.loop-i-init
unfolding any edges
loop-i-init c = rw sub-zero

pub loop-i-preserved : goal.loop-i-preserved
loop-i-preserved c = rw (c.is_on-found.ensures, c.edge_at.ensures) (sym (fold_run_next (step _) _ _ _ _ c.loop-i-test.true) ∙ c.loop-i.invariant)

pub returns : goal.returns
returns c = sym (fold_run_end (step _) _ _ _ _ c.loop-i-test.false) ∙ c.loop-i.invariant
