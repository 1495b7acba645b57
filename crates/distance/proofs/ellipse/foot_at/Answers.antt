-- `distance::ellipse::foot_at` meets its contract. Assumes nothing.
use mathlib.Core.Path.{refl}
use lib.Ieee.{of_bits}
use Rattle.distance.specs.Ellipse.{foot_at}
use Rattle.distance.proofs.ellipse.foot_at.Goals as goal

pub returns : goal.returns
unfolding foot_at of_bits
returns c = refl
