-- `boundary::length` meets its contract: the sum so far and the edges that are left give the length. Assumes nothing.
use mathlib.Core.Path.{sym, ◌∙◌}
use native.Mathlib.Nat.{sub-zero}
use lib.Ieee.{Float, binary64, add, of_bits}
use Rattle.boundary.specs.declared.Edge.{Edge}
use Rattle.lists.specs.Lists.{total}
use Rattle.boundary.specs.Outline.{edges}
use Rattle.boundary.specs.Length.{edge_length, length_of}
use Rattle.lists.proofs.FoldLaws.{fold_run_next, fold_run_end}
use Rattle.boundary.proofs.length.Goals as goal

abbrev step : Float → Edge → Float
step s e = add binary64 s (edge_length e)

pub loop-i-init : goal.loop-i-init
unfolding length_of total edges of_bits
loop-i-init c = rw sub-zero

pub loop-i-preserved : goal.loop-i-preserved
loop-i-preserved c = rw (c.line_length-sum.ensures, c.edge_at.ensures) (sym (fold_run_next step _ _ _ _ c.loop-i-test.true) ∙ c.loop-i.invariant)

pub returns : goal.returns
returns c = sym (fold_run_end step _ _ _ _ c.loop-i-test.false) ∙ c.loop-i.invariant
