-- `set::refusals::adds_up` meets its contract: the counts so far and what is left make n. Assumes nothing.
use mathlib.Core.Path.{sym}
use native.Mathlib.Omega.{arith}
use borrow.Author.Rules.{rules}
use Rattle.set.specs.Set.{start_of}
use Rattle.set.proofs.SetLaws.{start_next, adds_over, adds_all}
use Rattle.set.proofs.refusals.adds_up.Goals as goal

pub loop-count-init : goal.loop-count-init
unfolding start_of
loop-count-init c = search rules

pub returns-then-left-c : goal.returns-then-left-c
returns-then-left-c c =
    sym (adds_over c.args.counts.now _ c.loop-count.left _ c.loop-count-test.true c.if-left-c.true c.loop-count.invariant)

pub loop-count-preserved : goal.loop-count-preserved
loop-count-preserved c =
    let counts = c.args.counts.now in
    let h = start_next counts c.loop-count.count-index in
    let i = c.loop-count.invariant in
    let t = c.if-left-c.false in
    omega arith

pub returns : goal.returns
returns c =
    adds_all c.args.counts.now _ _ _ (search rules) c.loop-count-test.false c.loop-count.invariant
