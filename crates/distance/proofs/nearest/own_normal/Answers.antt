-- `distance::nearest::own_normal` meets its contract. Assumes nothing.
use Rattle.distance.specs.Piece.{piece_normal}
use Rattle.distance.proofs.nearest.own_normal.Goals as goal

pub returns : goal.returns
unfolding piece_normal
returns c = c.normal.ensures
