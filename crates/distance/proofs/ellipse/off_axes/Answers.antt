-- `distance::ellipse::off_axes` meets its contract. Assumes nothing.
use lib.Ieee.{of_bits}
use Rattle.distance.specs.Ellipse.{off_axes}
use Rattle.distance.proofs.ellipse.off_axes.Goals as goal

pub returns-then-g : goal.returns-then-g
unfolding off_axes of_bits
returns-then-g c = rw (← c.excess_of-g.ensures, c.if-g.true)

pub returns : goal.returns
unfolding off_axes of_bits
returns c =
    rw (← c.excess_of-g.ensures, c.if-g.false, c.foot_at.ensures, c.root_in.ensures, c.curve_of-c.ensures)
