-- `distance::nearest::outside_of` meets its contract. Assumes nothing.
use lib.Ieee.{of_bits}
use Rattle.distance.specs.Search.{outside}
use Rattle.distance.proofs.nearest.outside_of.Goals as goal

pub returns : goal.returns
unfolding outside of_bits
returns c = rw (c.out_along.ensures, c.greater_of.ensures, c.lesser_of.ensures)
