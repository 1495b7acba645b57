-- What the fill of a cell promises. Definitions only.

-- The fill: an outline's edges clipped to a cell, and summed.
pub mod Fill
-- The tests of a call, and what it leaves: the answer and the buffer.
pub mod Answers
-- An outline wholly inside the cell, and clips that keep every line whole.
pub mod Within
