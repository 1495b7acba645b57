-- Laws of the geometry layer.

-- What a loop that writes points cites.
pub mod WriteLaws
-- Vertices and their coordinates.
pub mod CoordinateLaws
-- Containment in the Rust's order of edges.
pub mod ContainsLaws
-- The Rust's bounds and location, by IEEE 754's minimum and maximum.
pub mod SameByMinMax
