-- `sorts::total_less` meets its contract. Assumes nothing.
use Rattle.sorts.specs.Keys.{total_less}
use Rattle.sorts.proofs.total_less.Goals as goal

pub returns : goal.returns
unfolding total_less
returns c = rw (c.is_nan-2.ensures, c.is_nan.ensures, c.sign_bit-2.ensures, c.sign_bit.ensures)
