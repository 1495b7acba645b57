-- `distance::ellipse::curve_at` meets its contract. Assumes nothing.
use lib.Ieee.{of_bits}
use Rattle.distance.specs.Ellipse.{curve_at}
use Rattle.distance.proofs.ellipse.curve_at.Goals as goal

pub returns : goal.returns
unfolding curve_at of_bits
returns c = c.excess_of.ensures
