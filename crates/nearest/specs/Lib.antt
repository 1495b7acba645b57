-- What the nearest query promises. Definitions only.

-- The nearest outline of a set.
pub mod Nearest
-- What the call answers and leaves.
pub mod Answers
-- The walk in the Rust's own names and order.
pub mod Rust
-- The numbers of the nodes that wait in it.
pub mod Numbers
