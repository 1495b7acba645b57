-- `distance::nearest::rounding` meets its contract. Assumes nothing.
use lib.Ieee.{of_bits}
use Rattle.distance.specs.Nearest.{rounding_of}
use Rattle.distance.proofs.nearest.rounding.Goals as goal

pub returns : goal.returns
unfolding rounding_of of_bits
returns c =
    rw (c.max-2.ensures, c.abs-4.ensures, c.max-m.ensures, c.abs-3.ensures, c.max.ensures, c.abs-2.ensures, c.abs.ensures)
