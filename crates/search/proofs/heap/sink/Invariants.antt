-- `search::heap::sink` meets its contract: while a child is before the entry, the entry is exchanged with the lesser child. The measure is how many places are past it. Assumes nothing.
use mathlib.Core.Path.{◌≡◌}
use Prim.Native.Nat.{◌-◌, ◌≤◌}
use Rattle.search.specs.Heap.{entry_at}
use Rattle.search.specs.Sifts.{least_child, Sinking}
use Rattle.search.proofs.SiftLaws.{Moving}
use Rattle.search.proofs.heap.sink.Given as goal

abbrev pub invariant-loop-c : goal.invariant-loop-c
invariant-loop-c l = (l.i ≤ l.n) × (l.c ≡ least_child (entry_at l.nodes l.gaps) l.n l.i) × Moving l.initial.nodes l.initial.gaps l.n l.nodes l.gaps × Sinking (entry_at l.nodes l.gaps) l.n l.i

abbrev pub decreases-loop-c : goal.decreases-loop-c
decreases-loop-c l = l.n - l.i
