-- Laws of lists of boxes.

-- The lists of widened boxes and of centres.
pub mod EntryLaws
