-- Whole-number geometry and the grid. Definitions only.

-- Whole-number geometry.
pub mod Whole
-- The grid.
pub mod Grid
-- The exact distance.
pub mod Distance
-- Worked examples.
pub mod Examples
