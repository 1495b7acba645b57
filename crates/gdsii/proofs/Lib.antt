-- Laws of reading.

-- The sizes of sets of outlines.
pub mod SizeLaws
-- What passing the tests tells, in the format's words.
pub mod PassedLaws
-- The record at a place of a stream.
pub mod PlaceLaws
-- One record of a stream.
pub mod TurnLaws
-- The first pass.
pub mod MeasureLaws
-- The second pass.
pub mod WriteLaws
-- What the call leaves.
pub mod OutcomeLaws
-- What the format has from each record on.
pub mod Stages
-- What is read, the format has.
pub mod Sound
-- What the format has is read.
pub mod Complete
-- A stream is read just where it is accepted.
pub mod Theorems
-- The set that accepted outlines are.
pub mod SetRead
-- What a call leaves: the set, or its lists as they were lent.
pub mod AcceptedCalls
-- The plain stream of a set is of the format.
pub mod PlainLaws
-- Reading it gives its outlines back.
pub mod ReadBack
-- Worked streams.
pub mod Examples
