-- `distance::Piece::nearest` meets its contract. Assumes nothing.
use Rattle.distance.specs.Piece.{piece_near}
use Rattle.distance.proofs.Piece.nearest.Goals as goal

pub returns-in-Line : goal.returns-in-Line
unfolding piece_near
returns-in-Line c = rw c.in-Line.is c.line_nearest.ensures

pub returns-in-Ellipse : goal.returns-in-Ellipse
unfolding piece_near
returns-in-Ellipse c = rw c.in-Ellipse.is c.ellipse_near.ensures
