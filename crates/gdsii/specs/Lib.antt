-- Reading a GDSII stream (document 02, U3). Definitions only.

-- What every stream is answered, record after record.
pub mod Reading
-- What is accepted, said of the format.
pub mod Accepted
-- What the call leaves.
pub mod Answers
-- What the two passes keep to.
pub mod Work
-- The plain stream of a set.
pub mod Plain
