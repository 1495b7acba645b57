-- `boundary::middle_of` meets its contract. Assumes nothing.
use mathlib.Core.Path.{refl}
use lib.Ieee.{of_bits}
use Rattle.boundary.proofs.middle_of.Goals as goal

pub returns : goal.returns
unfolding of_bits
returns c = refl
