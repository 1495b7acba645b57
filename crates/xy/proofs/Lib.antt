-- Laws of an XY's outline.

-- Its numbers by place, and on the grid.
pub mod NumberLaws
-- Making's tests and what making writes, by place.
pub mod MakingLaws
