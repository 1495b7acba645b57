-- `lists::any` meets its contract: what was found so far and the members that are left give the answer. Assumes nothing.
use mathlib.Core.Path.{refl, sym, ◌∙◌}
use mathlib.Core.Bool.{◌||◌}
use borrow.Author.Rules.{rules}
use Rattle.lists.specs.Lists.{any}
use Rattle.lists.proofs.FoldLaws.{fold_drop_next, fold_drop_end}
use Rattle.lists.proofs.any.Goals as goal

pub loop-x-init : goal.loop-x-init
unfolding any
loop-x-init g c = λ p h. refl

pub loop-x-preserved : goal.loop-x-preserved
loop-x-preserved g c = λ p h.
    rw (h c.x-item.result c.passes-found.result c.passes-found.ensures, c.x-item.is)
    (sym (fold_drop_next (λ b x. b || p x) c.x-item.result c.loop-x.found c.args.s.now _ c.loop-x-test.true) ∙ c.loop-x.invariant p h)

pub returns : goal.returns
returns g c = λ p h.
    sym (fold_drop_end (λ b x. b || p x) _ c.args.s.now _ (search rules) c.loop-x-test.false) ∙ c.loop-x.invariant p h
