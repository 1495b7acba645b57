-- A piece (document 01): a line with its two ends, or an ellipse with its centre and two semi-axes. Definitions only.
use Rattle.boundary.specs.declared.Point.{Point}
use Rattle.boundary.specs.declared.Edge.{Edge}
use Rattle.boundary.specs.declared.Near.{Near}
use Rattle.distance.specs.declared.Piece.{Piece}
use Rattle.distance.specs.declared.Piece.TheVariants.{Line, Ellipse}
use Rattle.number.specs.Exact.{zeroᶠ, one}
use Rattle.boundary.specs.Line.{normal_of, line_near}
use Rattle.distance.specs.Ellipse.{ellipse_near}

-- an outline's edge as a piece
abbrev pub piece_of : Edge → Piece
piece_of e = Line e.a.x e.a.y e.b.x e.b.y

-- `Piece::nearest`
unfoldable pub piece_near : Piece → Point → Near
piece_near (Line ax ay bx by) p = line_near (record { a = record { x = ax; y = ay }; b = record { x = bx; y = by } }) p
piece_near (Ellipse c a b) p = ellipse_near c a b p

-- the normal that goes with it, whatever the point: a line's own, and (1, 0) for an ellipse
unfoldable pub piece_normal : Piece → Point
piece_normal (Line ax ay bx by) = normal_of (record { a = record { x = ax; y = ay }; b = record { x = bx; y = by } })
piece_normal (Ellipse c a b) = record { x = one; y = zeroᶠ }
