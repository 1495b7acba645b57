-- `clip::path::run` meets its contract: the lines so far have been written as a path. Assumes nothing.
use Rattle.std.proofs.Common.{◌*◌, refl, ◌∙◌, rules, arith}
use native.Mathlib.Nat.{zero-add}
use Rattle.clip.specs.Passes.{step_of}
use Rattle.clip.proofs.RoundLaws.{turn_first, turn_next, fold_round_none, fold_round_next}
use Rattle.clip.proofs.path.run.Goals as goal

pub loop-init : goal.loop-init
loop-init c = (c.requires.0, turn_first _ _, search rules, refl, λ t h. rw (fold_round_none (step_of _) _ _ _ t) h)

pub loop-preserved : goal.loop-preserved
loop-preserved c =
    let l = c.loop in
    let g = rw l.auto.out at c.step-now.ensures in (
      c.next-i.ensures.1,
      rw c.next-i.ensures.0 (turn_next _ _ _ _ c.requires.0 c.loop-test.true l.invariant.0 l.invariant.1),
      omega (arith, c.step-now.ensures.0),
      g.1 ∙ l.invariant.3,
      λ t h. rw (fold_round_next (step_of _) _ _ _ t l.counter l.i c.requires.0 l.invariant.0 l.invariant.1, zero-add (4 * l.i)) (rw c.line_at.ensures at (g.2 _ (l.invariant.4 t h))),
    )
