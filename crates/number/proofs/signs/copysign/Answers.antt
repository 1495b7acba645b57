-- `number::signs::copysign` meets its contract. Assumes nothing.
use Rattle.number.specs.Signs.{copysign_of}
use Rattle.number.proofs.SignLaws.{with_sign_lem}
use Rattle.number.proofs.signs.copysign.Goals as goal

pub returns : goal.returns
unfolding copysign_of
returns c = rw (c.pick.ensures, c.sign_bit-2.ensures, c.sign_bit.ensures, with_sign_lem)
