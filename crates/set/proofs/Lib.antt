-- Laws of sets.

-- Tests 5 to 9 in one pass.
pub mod OnePassLaws
-- The box of an outline's vertices, of the field.
pub mod BoundsLaws
-- What a set that passes the tests has: its outlines, and their boxes.
pub mod SetLaws
-- What a query has and leaves, and the boxes and starts that it writes.
pub mod AskLaws
-- The index of a set, built in a lent index buffer.
pub mod FrameLaws
