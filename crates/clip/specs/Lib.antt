-- What the clip promises. Definitions only.

-- A closed list of lines clipped to a half-plane, as the Rust has it.
pub mod Clip
-- Inner: the same by two passes over the lines.
pub mod Passes
-- Inner: the lines that stand in a lent list.
pub mod Lent
-- Inner: an outline and a bound of the field.
pub mod Bounded
-- Inner: neighbouring lines drawn as one.
pub mod Shortened
