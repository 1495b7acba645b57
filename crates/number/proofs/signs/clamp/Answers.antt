-- `number::signs::clamp` meets its contract. Assumes nothing.
use Rattle.number.specs.Signs.{clamp_of}
use Rattle.number.proofs.signs.clamp.Goals as goal

pub returns : goal.returns
unfolding clamp_of
returns c = rw (c.pick-2.ensures, c.pick.ensures)
