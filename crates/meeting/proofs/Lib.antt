-- Laws of `meeting`.

-- When a box and a cell share no point.
pub mod ApartLaws
-- Runs of stores, past the end too, and one level of the walk.
pub mod WalkLaws
-- The walk of the buffer lists what `meeting` says.
pub mod MeetingLaws
-- Every box that shares a point with the cell is listed.
pub mod MeetingLists
-- A cell inside another lists no more.
pub mod NestedCells
-- What a call that passes the tests lists.
pub mod AcceptedLists
