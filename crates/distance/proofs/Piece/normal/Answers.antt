-- `distance::Piece::normal` meets its contract. Assumes nothing.
use lib.Ieee.{of_bits}
use Rattle.distance.specs.Piece.{piece_normal}
use Rattle.distance.proofs.Piece.normal.Goals as goal

pub returns-in-Line : goal.returns-in-Line
unfolding piece_normal
returns-in-Line c = rw c.in-Line.is c.normal.ensures

pub returns-in-Ellipse : goal.returns-in-Ellipse
unfolding piece_normal of_bits
returns-in-Ellipse c = rw c.in-Ellipse.is
