-- Laws of the nearest query.

-- What the nearest answer is.
pub mod NearestLeast
-- The Rust's walk gives the nearest answer.
pub mod RustLaws
-- What a call that passes the tests answers.
pub mod AcceptedNearest
-- The nodes that wait in the Rust's walk have the layout's numbers.
pub mod WaitingNumbers
