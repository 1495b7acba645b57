-- `fill::cell::x_dy` meets its contract. Assumes nothing.
use mathlib.Core.Path.{refl}
use lib.Ieee.{of_bits}
use Rattle.fill.specs.Fill.{xdy_of}
use Rattle.fill.proofs.cell.x_dy.Goals as goal

pub returns : goal.returns
unfolding xdy_of of_bits
returns c = refl
