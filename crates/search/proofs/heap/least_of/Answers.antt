-- `search::heap::least_of` meets its contract. Assumes nothing.
use mathlib.Core.Path.{◌≡◌}
use mathlib.Core.Logic.{⊎_elim}
use Prim.Native.Nat.{◌+◌, ◌*◌}
use native.Mathlib.Omega.{arith}
use Rattle.search.specs.Heap.{entry_at}
use Rattle.search.specs.Sifts.{least_child}
use Rattle.search.proofs.SiftLaws.{first_place, least_leaf}
use Rattle.search.proofs.heap.least_of.Goals as goal

pub returns-then-n-i : goal.returns-then-n-i
returns-then-n-i c = let a = c.args in rw (least_leaf (entry_at a.nodes.now a.gaps.now) a.n a.i c.if-n-i.true)

pub first_of-requires-2 : goal.first_of-requires-2
first_of-requires-2 c =
    let a = c.args in
    let e = c.first_of.ensures in
    ⊎_elim (λ p. ((omega arith, omega arith), (omega arith, omega arith))) (λ p. ((omega arith, omega arith), (omega arith, omega arith))) (first_place (entry_at a.nodes.now a.gaps.now) a.n a.i (2 * a.i + 1))

pub returns : goal.returns
unfolding least_child
returns c =
    let a = c.args in
    let z : 2 * a.i + 2 ≡ 2 * a.i + 1 + 1 = omega arith in
    rw (z, c.first_of-2.ensures, c.first_of.ensures)
