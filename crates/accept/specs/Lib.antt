-- What is accepted, and what a refused call gives. Definitions only.

-- An outline's area.
pub mod Area
-- Tests one after the other, what stands given them, and those of an outline, in document 01's order.
pub mod Refusals
-- What the tests of an outline hand over: its area too.
pub mod Verdicts
-- What an operation answers, its fields, and all that a call leaves.
pub mod Answers
