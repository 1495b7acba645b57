-- The laws of outlines on the grid.

-- ---- the theorems
-- An outline that the tests accept, and a point: `grid_exact`.
pub mod OneOutline
-- Making an outline: `made_accepted`.
pub mod Making
-- The area of any edges: `area_exact`.
pub mod Area
-- Containment and location of a point among any edges: `contains_exact`, `location_exact`.
pub mod Location
-- Whole edges for an outline on the grid: `edges_on`.
pub mod WholeEdges
-- The signed distance of a point from any edges: `distance_near`.
pub mod Distance
-- The distance of a point from one edge: `edge_near`.
pub mod EdgeDistance
-- ---- what they rest on
-- One edge and one point.
pub mod OneEdge
-- Where an edge crosses a point's height.
pub mod Crossing
-- The parameter of an edge's nearest point.
pub mod Parameter
-- The roundings of one distance, in whole numbers.
pub mod Chain
-- Points between two ends.
pub mod Between
-- An outline's edges are the loop of its vertices.
pub mod Loop
-- A loop walked backwards.
pub mod Turned
-- Vertices and their numbers.
pub mod Numbers
-- The tests of a number of the grid.
pub mod Tests
