-- What the boundary layer promises. Definitions only.

-- An outline's vertices and edges.
pub mod Outline
-- The length of edges.
pub mod Length
-- The nearest point of a line.
pub mod Line
-- The field, and boxes: around points and boxes, widened, and how far a point is from one.
pub mod Boxes
