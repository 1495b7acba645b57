-- Laws of the node records.

-- The nodes of an index buffer as records, and all that the call leaves.
pub mod RecordLaws
-- The front of a list, written to another one by one.
pub mod OfferLaws
-- A local array in memory.
pub mod LocalArray
-- The machine value of a number, a count and 511 node records side by side.
pub mod RecordingIs
