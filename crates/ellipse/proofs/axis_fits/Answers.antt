-- `ellipse::axis_fits` meets its contract. Assumes nothing.
use mathlib.Core.Path.{refl}
use lib.Ieee.{of_bits}
use Rattle.ellipse.proofs.axis_fits.Goals as goal

pub returns : goal.returns
unfolding of_bits
returns c = refl
