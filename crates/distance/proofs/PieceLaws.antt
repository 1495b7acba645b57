-- An outline's edges as pieces: `Piece::nearest` of a line is what the distance takes of an edge. Assumes nothing.
use mathlib.Core.Path.{◌≡◌, refl}
use mathlib.Core.List.{List}
use Rattle.boundary.specs.declared.Point.{Point}
use Rattle.boundary.specs.declared.Edge.{Edge}
use Rattle.boundary.specs.declared.Near.{Near}
use Rattle.boundary.specs.Line.{line_near}
use Rattle.lists.specs.Lists.{fold}
use Rattle.distance.specs.declared.Piece.{Piece}
use Rattle.distance.specs.declared.Piece.TheVariants.{Line, Ellipse}
use Rattle.distance.specs.Piece.{piece_of, piece_near, piece_normal}
use Rattle.distance.specs.Ellipse.{ellipse_near}
use Rattle.distance.specs.Nearest.{nearer, far_away, nearest_of}

pub line_piece : (e : Edge) (p : Point) → piece_near (piece_of e) p ≡ line_near e p
unfolding piece_near
line_piece e p = refl

-- the normal of a piece's nearest point is the piece's, whatever the point
pub piece_normal_lem : (k : Piece) (p : Point) → (piece_near k p).n ≡ piece_normal k
unfolding piece_near piece_normal line_near ellipse_near
piece_normal_lem (Line ax ay bx by) p = refl
piece_normal_lem (Ellipse c a b) p = refl

-- THE NEAREST of the edges is that of the pieces that they are, the first among equals
pub nearest_pieces : (es : List Edge) (p : Point) → nearest_of es p ≡ fold (λ (best : Near) (e : Edge). nearer best (piece_near (piece_of e) p)) (far_away p) es
unfolding nearest_of piece_near
nearest_pieces es p = refl
