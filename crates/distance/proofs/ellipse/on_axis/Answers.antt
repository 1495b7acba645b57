-- `distance::ellipse::on_axis` meets its contract. Assumes nothing.
use lib.Ieee.{of_bits}
use Rattle.distance.specs.Ellipse.{on_axis}
use Rattle.distance.proofs.ellipse.on_axis.Goals as goal

pub returns-then-numer-denom : goal.returns-then-numer-denom
unfolding on_axis of_bits
returns-then-numer-denom c = rw (c.if-numer-denom.true, c.sqrt.ensures, c.max.ensures)

pub returns : goal.returns
unfolding on_axis of_bits
returns c = rw c.if-numer-denom.false
