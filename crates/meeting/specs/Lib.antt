-- What `meeting` promises. Definitions only.

-- The items of the leaves that share a point with a cell.
pub mod Meeting
-- The walk of the index buffer.
pub mod Walk
-- The tests, and all that the call leaves.
pub mod Answers
