-- `search::box_squares` meets its contract. Assumes nothing.
use Rattle.search.proofs.box_squares.Goals as goal

pub returns : goal.returns
returns c = rw (c.gap_squares.ensures, c.box_at-b.ensures)
