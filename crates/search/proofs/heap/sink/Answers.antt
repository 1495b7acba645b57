-- `search::heap::sink` meets its contract: while a child is before the entry, the entry is exchanged with the lesser child. The measure is how many places are past it. Assumes nothing.
use mathlib.Core.Path.{sym, ap, ◌∙◌}
use native.Mathlib.Omega.{arith}
use borrow.Author.Rules.{rules}
use Rattle.search.specs.Sifts.{HeapLists}
use Rattle.search.proofs.SiftLaws.{moving, sunk, least_place, sink_turn}
use Rattle.search.proofs.heap.sink.Goals as goal

pub loop-c-init : goal.loop-c-init
loop-c-init c = (search rules, c.least_of-c.ensures, moving _ _ _, c.requires.1)

pub exchange-requires : goal.exchange-requires
exchange-requires c =
    let L = c.loop-c in
    let at = least_place L.invariant.3 (λ z. c.loop-c-test.true (L.invariant.1 ∙ z)) in
    search rules

pub least_of-c-requires-in-loop-c : goal.least_of-c-requires-in-loop-c
least_of-c-requires-in-loop-c c =
    let L = c.loop-c in
    let at = least_place L.invariant.3 (λ z. c.loop-c-test.true (L.invariant.1 ∙ z)) in
    search rules

pub loop-c-smaller : goal.loop-c-smaller
loop-c-smaller c =
    let L = c.loop-c in
    let at = least_place L.invariant.3 (λ z. c.loop-c-test.true (L.invariant.1 ∙ z)) in
    omega arith

pub loop-c-preserved : goal.loop-c-preserved
loop-c-preserved c =
    let L = c.loop-c in
    let E = c.exchange.ensures in
    let at = least_place L.invariant.3 (λ z. c.loop-c-test.true (L.invariant.1 ∙ z)) in
    let step = sink_turn L.invariant.2 (omega arith) (omega arith) L.c L.invariant.1 c.loop-c-test.true L.invariant.3 (ap (λ (h : HeapLists). h.nodes) E) (ap (λ (h : HeapLists). h.gaps) E) in
    (omega arith, c.least_of-c-in-loop-c.ensures, step.0, step.1)

pub returns : goal.returns
returns c =
    let L = c.loop-c in
    record { heaped = sunk L.invariant.3 (sym L.invariant.1 ∙ c.loop-c-test.false); contents = L.invariant.2.contents }
