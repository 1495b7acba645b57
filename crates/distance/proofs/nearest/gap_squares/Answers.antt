-- `distance::nearest::gap_squares` meets its contract. Assumes nothing.
use Rattle.distance.specs.Search.{gap_squares}
use Rattle.distance.proofs.nearest.gap_squares.Goals as goal

pub returns : goal.returns
unfolding gap_squares
returns c = rw (c.outside_of-y.ensures, c.outside_of-x.ensures)
