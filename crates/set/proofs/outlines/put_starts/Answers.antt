-- `set::outlines::put_starts` meets its contract: the starts so far stand at the front. Assumes nothing.
use mathlib.Core.Path.{refl, ap, ◌∙◌}
use native.Mathlib.Nat.{le_antisymm}
use native.Mathlib.Omega.{arith}
use lib.ListN.{length}
use lib.Seq.{length-sets}
use Rattle.lists.proofs.StoreLaws.{sets_more}
use Rattle.lists.specs.Lists.{run}
use Rattle.set.specs.Set.{start_of}
use Rattle.set.proofs.SetLaws.{start_next, start_within}
use borrow.Author.Rules.{rules}
use Rattle.set.proofs.outlines.put_starts.Goals as goal

pub loop-k-init : goal.loop-k-init
unfolding run start_of
loop-k-init c = (refl, refl)

pub overflow_add-sum : goal.overflow_add-sum
overflow_add-sum c =
    let d = c in
    let i = c.loop-k.invariant.0 in
    let w = start_within d.args.counts.now c.loop-k.k c.loop-k-test.true in
    let s = d.requires in
    search rules

pub loop-k-preserved : goal.loop-k-preserved
loop-k-preserved c =
    let d = c in
    let i = c.loop-k.invariant.0 in
    let n = start_next d.args.counts.now c.loop-k.k in
    (omega arith, sets_more _ _ _ (start_of d.args.counts.now) _ _ c.loop-k.invariant.1 i c.put.ensures)

pub shape_of-starts : goal.shape_of-starts
shape_of-starts c = ap length c.loop-k.invariant.1 ∙ simp length-sets

pub returns : goal.returns
returns c =
    rw (← le_antisymm (search rules) c.loop-k-test.false) c.loop-k.invariant.1
