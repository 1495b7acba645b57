-- Laws of the build.

-- How many nodes a tree has, and where they are put.
pub mod LayoutLaws
-- What one call of the build leaves.
pub mod BuildLaws
