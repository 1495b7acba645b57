-- `distance::ellipse::curve_of` meets its contract. Assumes nothing.
use mathlib.Core.Path.{refl}
use Rattle.distance.specs.Ellipse.{curve_of}
use Rattle.distance.proofs.ellipse.curve_of.Goals as goal

pub returns : goal.returns
unfolding curve_of
returns c = refl
