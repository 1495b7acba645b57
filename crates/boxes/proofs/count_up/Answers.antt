-- `boxes::count_up` meets its contract: the numbers so far stand at the front. Assumes nothing.
use Rattle.lists.specs.Lists.{run}
use Rattle.lists.proofs.StoreLaws.{sets_more, sets_all}
use native.Mathlib.Omega.{arith}
use Prim.Native.Nat.{ℕ}
use mathlib.Core.Path.{refl, ◌∙◌}
use Rattle.boxes.proofs.count_up.Goals as goal

pub loop-i-init : goal.loop-i-init
unfolding run
loop-i-init c = refl

pub loop-i-preserved : goal.loop-i-preserved
loop-i-preserved c =
    sets_more _ _ _ (λ (j : ℕ). j) _ _ c.loop-i.invariant refl refl

pub returns : goal.returns
returns c =
    c.loop-i.invariant ∙ sets_all _ (λ (j : ℕ). j) _ (omega arith)
