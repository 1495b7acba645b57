-- What a piece's nearest point is, and the distance of a point from an outline. Definitions only.

-- The nearest point of an ellipse.
pub mod Ellipse
-- A line or an ellipse.
pub mod Piece
-- The signed distance.
pub mod Nearest
-- How the nearest edge is found.
pub mod Search
