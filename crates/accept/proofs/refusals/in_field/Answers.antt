-- `accept::refusals::in_field` meets its contract. Assumes nothing.
use mathlib.Core.Path.{refl}
use lib.Ieee.{le, neg, of_bits}
use Rattle.accept.proofs.refusals.in_field.Goals as goal

pub returns : goal.returns
unfolding le neg of_bits
returns c = refl
