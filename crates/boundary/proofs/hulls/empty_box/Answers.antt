-- `boundary::hulls::empty_box` meets its contract. Assumes nothing.
use mathlib.Core.Path.{refl}
use lib.Ieee.{div, neg, of_bits}
use Rattle.boundary.proofs.hulls.empty_box.Goals as goal

pub returns : goal.returns
unfolding div neg of_bits
returns c = refl
