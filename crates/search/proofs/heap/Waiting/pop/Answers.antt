-- `search::heap::Waiting::pop` meets its contract: the last entry takes the root's place, and sinks. Assumes nothing.
use mathlib.Core.Path.{ap}
use Prim.Native.Nat.{◌-◌}
use native.Mathlib.Omega.{arith}
use Rattle.search.specs.Sifts.{HeapLists}
use Rattle.search.proofs.Contents.{exchanged_swap}
use Rattle.search.proofs.HeapLaws.{pop_sinking, popped}
use Rattle.search.proofs.heap.Waiting.pop.Goals as goal

pub sink-requires : goal.sink-requires
sink-requires g c =
    let s = c.args.self.now in
    let E = c.exchange.ensures in
    let S = exchanged_swap s.nodes s.gaps 0 (s.len - 1) (ap (λ (h : HeapLists). h.nodes) E) (ap (λ (h : HeapLists). h.gaps) E) (omega arith) (omega arith) (omega arith) (omega arith) in
    ((omega arith, omega arith), pop_sinking S (omega arith) s.heaped)

pub returns-clause-popped : goal.returns-clause-popped
returns-clause-popped g c =
    let s = c.args.self.now in
    let E = c.exchange.ensures in
    let S = exchanged_swap s.nodes s.gaps 0 (s.len - 1) (ap (λ (h : HeapLists). h.nodes) E) (ap (λ (h : HeapLists). h.gaps) E) (omega arith) (omega arith) (omega arith) (omega arith) in
    rw c.entry_at-top.ensures (popped S (omega arith) s.heaped c.sink.ensures)
