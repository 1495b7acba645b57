-- Laws of the search of an index of a set.

-- The least of some magnitudes, the lowest number among equals: the search keeps the better of two, and there is only one best.
pub mod LeastLaws
-- An outline's magnitude: what it is, that the gap of every box around the outline's is at most that, and that what is clearly farther by its box is farther.
pub mod MagnitudeLaws
-- The gap of every node of a tree that covers a set's outlines is at most the magnitude of each outline below it, squared or not; our index is such a tree.
pub mod GapLaws
-- What is kept, outline k, left out or looked at, and the best of a leaf's outlines, one after the other.
pub mod LookLaws
-- A node that waits: the tree that stands there, and those of its children.
pub mod WaitLaws
-- The search: what is kept from turn to turn, and that it ends with the least.
pub mod SearchLaws
-- The search of an index of a set: how it begins, and what it ends with.
pub mod SetSearch
-- ---- the waiting heap: the root is least, what holds of all entries stays so, the popped gap is at most every other
pub mod HeapLaws
-- The order of entries is total.
pub mod EntryOrder
-- Totals of weights, and which entries a heap has.
pub mod Contents
-- An entry moves up or down by exchanges.
pub mod SiftLaws
