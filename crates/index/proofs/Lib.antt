-- Laws of the index.

-- What building over a whole list leaves.
pub mod GrowLaws
-- What holds of every index.
pub mod IndexCovers
-- What the build leaves holds the tree.
pub mod ReadLaws
-- The Rust's build gives the index, and what an accepted call gives beside it.
pub mod RustLaws
