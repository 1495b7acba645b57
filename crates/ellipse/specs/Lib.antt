-- What the nearest point of an ellipse is. Definitions only.

-- The tests, and what the call answers.
pub mod Ellipse
-- What is said of the answer.
pub mod Meaning
