-- `search::heap::is_before` meets its contract. Assumes nothing.
use mathlib.Core.Path.{refl}
use Rattle.search.specs.Order.{entry_before}
use Rattle.search.proofs.heap.is_before.Goals as goal

pub returns : goal.returns
unfolding entry_before
returns c = refl
