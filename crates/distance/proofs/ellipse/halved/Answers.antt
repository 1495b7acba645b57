-- `distance::ellipse::halved` meets its contract: the halvings that are left give the final answer. Assumes nothing.
use mathlib.Core.Path.{refl, sym, ◌∙◌}
use lib.Ieee.{of_bits}
use Rattle.distance.specs.Ellipse.{halved_of}
use Rattle.distance.proofs.HalveLaws.{halve_end, halve_met, halve_above, halve_below, halve_root}
use Rattle.distance.proofs.ellipse.halved.Goals as goal
use Rattle.distance.proofs.ellipse.halved.Goals.{then-gs, else-gs+then-gs-2}

pub loop-init : goal.loop-init
unfolding halved_of
loop-init c = refl

pub returns-then-s-s0 : goal.returns-then-s-s0
returns-then-s-s0 c =
    let l = c.loop in
    sym (halve_met _ 1100 l.counter l.s l.s0 l.s1 _ c.loop-test.true c.middle_of-s.ensures c.if-s-s0.true) ∙ l.invariant

pub returns-else-gs-2 : goal.returns-else-gs-2
unfolding of_bits
returns-else-gs-2 c =
    let m = c in
    let l = m.loop in
    sym (halve_root _ 1100 l.counter l.s l.s0 l.s1 _ m.loop-test.true m.middle_of-s.ensures c.if-s-s0.false (rw (← c.curve_at-gs.ensures) c.if-gs.false) (rw (← c.curve_at-gs.ensures) c.if-gs-2.false)) ∙ l.invariant

pub loop-preserved : goal.loop-preserved
unfolding of_bits
loop-preserved c =
    let m = c in
    let l = m.loop in
    let t = m.loop-test.true in
    elim c.if-gs.branch [
      | then-gs k ↦ rw (k.s0-is, k.s1-is) (sym (halve_above _ 1100 l.counter l.s l.s0 l.s1 _ t m.middle_of-s.ensures c.if-s-s0.false (rw (← c.curve_at-gs.ensures) k.if-gs.true)) ∙ l.invariant)
      | else-gs+then-gs-2 k ↦ rw (k.s0-is, k.s1-is) (sym (halve_below _ 1100 l.counter l.s l.s0 l.s1 _ t m.middle_of-s.ensures c.if-s-s0.false (rw (← c.curve_at-gs.ensures) k.if-gs.false) (rw (← c.curve_at-gs.ensures) k.if-gs-2.true)) ∙ l.invariant)
    ]

pub returns : goal.returns
returns c = let l = c.loop in sym (halve_end _ 1100 l.counter l.s l.s0 l.s1 c.loop-test.false) ∙ l.invariant
