-- Demand 3. Definitions only.

-- What holds together of a set and a point on the grid.
pub mod Demand
