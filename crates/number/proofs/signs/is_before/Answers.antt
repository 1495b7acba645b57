-- `number::signs::is_before` meets its contract. Assumes nothing.
use Rattle.number.specs.Signs.{stands_before}
use Rattle.number.proofs.signs.is_before.Goals as goal

pub returns : goal.returns
unfolding stands_before
returns c = rw c.sign_bit.ensures
