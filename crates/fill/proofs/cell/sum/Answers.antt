-- `fill::cell::sum` meets its contract: the sum so far and the lines that are left give the whole. Assumes nothing.
use mathlib.Core.Path.{sym, ◌∙◌}
use native.Mathlib.Nat.{sub-zero}
use lib.Ieee.{binary64, add, of_bits}
use Rattle.lists.proofs.FoldLaws.{fold_run_next, fold_run_end}
use Rattle.lists.specs.Lists.{total}
use Rattle.fill.specs.Fill.{xdy_of}
use Rattle.clip.proofs.LentLaws.{first_line}
use Rattle.fill.proofs.cell.sum.Goals as goal

pub loop-i-init : goal.loop-i-init
unfolding total of_bits
loop-i-init c = rw sub-zero

pub loop-i-preserved : goal.loop-i-preserved
loop-i-preserved c = rw (c.x_dy-sum.ensures, c.line_at.ensures, first_line c.args.lines.now c.loop-i.i) (sym (fold_run_next (λ s e. add binary64 s (xdy_of e)) _ _ _ _ c.loop-i-test.true) ∙ c.loop-i.invariant)

pub returns : goal.returns
returns c = sym (fold_run_end (λ s e. add binary64 s (xdy_of e)) _ _ _ _ c.loop-i-test.false) ∙ c.loop-i.invariant
