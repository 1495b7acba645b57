-- Laws of the clip.

-- Which lines are not cut, told without a division.
pub mod CutLaws
-- One coordinate of a line: its middle, and a line with both ends on one side of a bound.
pub mod OneSideLaws
-- The two passes are the clip; what a clip gives that keeps all parts, or none.
pub mod PassLaws
-- A clip that keeps every line whole and adds none.
pub mod KeepsAllLaws
-- Going round a list of lines.
pub mod RoundLaws
-- Lines in a list of numbers, and written to it.
pub mod LentLaws
-- A list that goes from one half to the other.
pub mod StageLaws
-- The loop of the first pass.
pub mod FirstPassLaws
-- On the grid a line that is cut has a part inside and one outside.
pub mod GridCuts
-- Neighbouring lines drawn as one: the clips give the same.
pub mod ShortenedLaws
-- The edges of an outline between vertices outside one bound of a strip, drawn as one.
pub mod StripLaws
-- A list cut into two halves and the rest.
pub mod HalvesLaws
-- Lines that stand apart from a part of a list that has changed.
pub mod BesideLaws
