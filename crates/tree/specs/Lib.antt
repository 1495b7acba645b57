-- What a split promises. Definitions only.

-- The tree over boxes.
pub mod Tree
