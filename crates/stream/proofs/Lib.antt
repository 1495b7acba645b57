-- Laws of streams.

-- Signed numbers of four bytes, and where they stand.
pub mod StepLaws
-- The record that a stream opens with, and equal bytes.
pub mod RecordLaws
-- What a record's type, length and unit are where nothing is wrong.
pub mod OrderLaws
