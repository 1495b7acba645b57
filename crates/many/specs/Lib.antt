-- What the nearest query for many points promises (document 02, U1). Definitions only.

-- The tests, and all that the call leaves.
pub mod Answers
-- What the work asks and leaves.
pub mod Work
