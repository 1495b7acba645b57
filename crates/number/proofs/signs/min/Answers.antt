-- `number::signs::min` meets its contract. Assumes nothing.
use Rattle.number.specs.Signs.{min_of}
use Rattle.number.proofs.signs.min.Goals as goal

pub returns : goal.returns
unfolding min_of
returns c =
    rw (c.pick-2.ensures, c.pick.ensures, c.is_before.ensures, c.is_nan-2.ensures.value, c.is_nan.ensures.value)
