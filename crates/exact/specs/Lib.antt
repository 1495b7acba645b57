-- What is said of outlines on the grid. Definitions only.

-- Points and edges on the grid.
pub mod Grid
-- What holds of an outline and a point on the grid, and of making there.
pub mod OneOutline
-- A distance near the exact one.
pub mod Distance
