-- `number::signs::max` meets its contract. Assumes nothing.
use Rattle.number.specs.Signs.{max_of}
use Rattle.number.proofs.signs.max.Goals as goal

pub returns : goal.returns
unfolding max_of
returns c =
    rw (c.pick-2.ensures, c.pick.ensures, c.is_before.ensures, c.is_nan-2.ensures.value, c.is_nan.ensures.value)
