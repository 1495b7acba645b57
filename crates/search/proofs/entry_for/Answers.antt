-- `search::entry_for` meets its contract. Assumes nothing.
use Rattle.boundary.specs.Boxes.{gap_squares_of}
use Rattle.search.proofs.entry_for.Goals as goal

pub returns : goal.returns
unfolding gap_squares_of
returns c = rw (c.out_along-y.ensures, c.out_along-x.ensures, c.box_at-b.ensures)
