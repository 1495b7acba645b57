-- What the geometry layer promises. Definitions only.

-- An outline's containment, location and bounds.
pub mod Polygon
-- What each operation answers.
pub mod Answers
-- Making an outline.
pub mod Making
