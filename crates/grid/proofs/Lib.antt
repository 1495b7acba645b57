-- The laws of whole-number geometry and of the grid.

-- Of one edge, `num_z` / `den_z` is the squared distance to its nearest point: `least_distance`.
pub mod LeastDistance
-- Edges with a length have one exact distance: `exact_distance`, `exact_unique`.
pub mod NearestEdge
-- A point off an edge is apart from it.
pub mod Apart
-- Where a point stands along an edge.
pub mod Regions
-- Points on the line of an edge.
pub mod Line
-- Points between two ends.
pub mod Between
-- A number on the grid is within ±1,024 µm.
pub mod GridLaws
