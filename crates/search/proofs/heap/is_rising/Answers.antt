-- `search::heap::is_rising` meets its contract. Assumes nothing.
use native.Mathlib.Omega.{arith}
use borrow.Author.Tests.{lt-ltb, le-ltb}
use Rattle.search.specs.Sifts.{rises}
use Rattle.search.proofs.heap.is_rising.Goals as goal

pub returns-then-i-eq0 : goal.returns-then-i-eq0
unfolding rises
returns-then-i-eq0 c = rw (le-ltb 0 c.args.i (omega arith))

pub returns : goal.returns
unfolding rises
returns c = rw (lt-ltb 0 c.args.i (omega arith), c.is_before.ensures, c.entry_at-2.ensures, c.entry_at.ensures)
