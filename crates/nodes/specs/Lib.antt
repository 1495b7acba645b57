-- What the build promises. Definitions only.

-- The tree's nodes and items, as the Rust numbers them.
pub mod Layout
