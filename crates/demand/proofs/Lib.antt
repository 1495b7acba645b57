-- Demand 3, proved.

-- The theorem: `demand_3`.
pub mod Demand
-- Where a set is on the grid, its outlines are.
pub mod OutlineLaws
-- The same at each point of a call for many points: `many_least`.
pub mod ManyPoints
-- The same of the set that a stream is read into: `streams_demand_3`.
pub mod Streams
