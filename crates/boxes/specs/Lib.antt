-- What the lists of boxes promise. Definitions only.

-- A list's boxes, widened, and their centres.
pub mod BoxLists
