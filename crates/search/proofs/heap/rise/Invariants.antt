-- `search::heap::rise` meets its contract: while the entry is before its parent, the two are exchanged. The measure is its place. Assumes nothing.
use Prim.Native.Nat.{◌+◌, ◌≤◌}
use Rattle.search.specs.Heap.{entry_at}
use Rattle.search.specs.Sifts.{Rising}
use Rattle.search.proofs.SiftLaws.{Moving}
use Rattle.search.proofs.heap.rise.Given as goal

abbrev pub invariant-loop-p : goal.invariant-loop-p
invariant-loop-p l = (l.i ≤ l.last) × Moving l.initial.nodes l.initial.gaps (l.last + 1) l.nodes l.gaps × Rising (entry_at l.nodes l.gaps) (l.last + 1) l.i

abbrev pub decreases-loop-p : goal.decreases-loop-p
decreases-loop-p l = l.i
