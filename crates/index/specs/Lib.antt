-- What the index promises. Definitions only.

-- An index buffer, what stands there, and what a call leaves there.
pub mod Buffer
-- The tests, and all that building leaves.
pub mod Answers
-- The trees that the Rust's build gives.
pub mod Rust
