-- What `any_at` promises. Definitions only.

-- What the call answers and leaves.
pub mod Answers
