-- `stream::any_far` meets its contract: what was found so far and the numbers that are left give the answer. Assumes nothing.
use mathlib.Core.Path.{sym, ap, ◌∙◌}
use mathlib.Core.Bool.{Bool, ◌||◌}
use native.Mathlib.Nat.{sub-zero}
use lib.IntN.{ℤ}
use Rattle.lists.specs.Lists.{any}
use Rattle.lists.proofs.FoldLaws.{fold_run_next, fold_run_end}
use Rattle.stream.specs.Records.{far_step, any_far}
use Rattle.stream.proofs.StepLaws.{small_same, steps_placed}
use Rattle.stream.proofs.any_far.Goals as goal

abbrev found : Bool → ℤ → Bool
found b z = b || far_step z

pub loop-k-init : goal.loop-k-init
unfolding any
loop-k-init c = rw sub-zero

pub loop-k-preserved : goal.loop-k-preserved
loop-k-preserved c =
    rw (c.is_far-found.ensures, small_same _ c.step_at.ensures.small, c.step_at.ensures.far) (sym (fold_run_next found _ _ _ _ c.loop-k-test.true) ∙ c.loop-k.invariant)

pub returns : goal.returns
returns c =
    let a = c.args in
    sym (fold_run_end found _ _ _ _ c.loop-k-test.false) ∙ c.loop-k.invariant ∙ ap any_far (sym (steps_placed a.s.now a.from a.n c.requires))
