-- `search::heap::rise` meets its contract: while the entry is before its parent, the two are exchanged. The measure is its place. Assumes nothing.
use mathlib.Core.Path.{sym, ap, ◌∙◌}
use native.Mathlib.Omega.{arith}
use borrow.Author.Rules.{rules}
use Rattle.search.specs.Sifts.{HeapLists}
use Rattle.search.proofs.SiftLaws.{moving, rises_says, risen, rise_turn}
use Rattle.search.proofs.heap.rise.Goals as goal

pub loop-p-init : goal.loop-p-init
loop-p-init c = (search rules, moving _ _ _, c.requires.1)

pub overflow_sub-p : goal.overflow_sub-p
overflow_sub-p c = let up = rises_says _ _ (sym c.is_rising.ensures ∙ c.loop-p-test.true) in omega arith

pub loop-p-smaller : goal.loop-p-smaller
loop-p-smaller c = let up = rises_says _ _ (sym c.is_rising.ensures ∙ c.loop-p-test.true) in omega arith

pub loop-p-preserved : goal.loop-p-preserved
loop-p-preserved c =
    let L = c.loop-p in
    let E = c.exchange.ensures in
    let step = rise_turn L.invariant.1 (omega arith) (omega arith) L.invariant.2 (omega arith) (sym c.is_rising.ensures ∙ c.loop-p-test.true) (ap (λ (h : HeapLists). h.nodes) E) (ap (λ (h : HeapLists). h.gaps) E) in
    (omega arith, step.0, step.1)

pub returns : goal.returns
returns c =
    let L = c.loop-p in
    record { heaped = risen L.invariant.2 (omega arith) (sym c.is_rising.ensures ∙ c.loop-p-test.false); contents = L.invariant.1.contents }
