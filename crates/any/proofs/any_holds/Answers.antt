-- `any::any_holds` meets its contract: the outlines so far do not contain the point, and those that are left give the answer. Assumes nothing.
use mathlib.Core.Path.{◌≡◌, refl, sym, ◌∙◌}
use mathlib.Core.Bool.{false}
use lib.ListN.{get_or}
use Rattle.lists.proofs.FoldLaws.{fold_drop_end}
use Rattle.lists.specs.Lists.{any}
use Rattle.set.specs.Set.{outlines_of}
use Rattle.any.specs.Answers.{contains_in}
use Rattle.any.proofs.AnyLaws.{any_step, found_at, missed_at}
use borrow.Author.Rules.{rules}
use Rattle.any.proofs.any_holds.Goals as goal

pub loop-k-init : goal.loop-k-init
unfolding any
loop-k-init c = refl

pub returns-then-holds_at : goal.returns-then-holds_at
returns-then-holds_at c =
    let a = c.args in
    let f = contains_in (outlines_of a.set.now.vertices.now a.set.now.counts.now) a.p in
    let e : c.holds_at.result ≡ f (get_or a.list.now c.loop-k.k-index 0) = c.holds_at.ensures in
    found_at f 0 a.list.now _ c.loop-k-test.true c.loop-k.invariant (sym e ∙ c.if-holds_at.true)

pub loop-k-preserved : goal.loop-k-preserved
loop-k-preserved c =
    let a = c.args in
    let f = contains_in (outlines_of a.set.now.vertices.now a.set.now.counts.now) a.p in
    let e : c.holds_at.result ≡ f (get_or a.list.now c.loop-k.k-index 0) = c.holds_at.ensures in
    missed_at f 0 a.list.now _ c.loop-k-test.true c.loop-k.invariant (sym e ∙ c.if-holds_at.false)

pub returns : goal.returns
returns c =
    let a = c.args in
    let f = contains_in (outlines_of a.set.now.vertices.now a.set.now.counts.now) a.p in
    sym (fold_drop_end (any_step f) false a.list.now _ (search rules) c.loop-k-test.false) ∙ c.loop-k.invariant
