-- What a set is, its tests, and what every query over a set tests and leaves. Definitions only.

-- A set of outlines.
pub mod Set
-- The tests of a set and of a query of it.
pub mod Tests
-- Tests 5 to 9 in one pass.
pub mod OnePass
-- The tests of a query, and what it leaves.
pub mod Answers
