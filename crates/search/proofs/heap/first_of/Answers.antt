-- `search::heap::first_of` meets its contract. Assumes nothing.
use borrow.Author.Tests.{lt-ltb, le-ltb}
use Rattle.search.specs.Sifts.{earlier_of}
use Rattle.search.proofs.heap.first_of.Goals as goal

pub returns-then-is_before : goal.returns-then-is_before
unfolding earlier_of
returns-then-is_before c =
    let e = rw (c.entry_at-then-b-n.ensures, c.entry_at.ensures) at c.is_before.ensures in
    rw (lt-ltb _ _ c.if-b-n.true, ← e, c.if-is_before.true)

pub returns-else-is_before : goal.returns-else-is_before
unfolding earlier_of
returns-else-is_before c =
    let e = rw (c.entry_at-then-b-n.ensures, c.entry_at.ensures) at c.is_before.ensures in
    rw (lt-ltb _ _ c.if-b-n.true, ← e, c.if-is_before.false)

pub returns-else-b-n : goal.returns-else-b-n
unfolding earlier_of
returns-else-b-n c = rw (le-ltb _ _ c.if-b-n.false)
