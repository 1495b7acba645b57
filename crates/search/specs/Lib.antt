-- What the search of a set's index promises. Definitions only.

-- The least of a set's magnitudes.
pub mod Least
-- The search: what it reads, and how it takes the better of two.
pub mod Walk
-- The order of the entries that wait.
pub mod Order
-- A heap of entries, and what push and pop do to one.
pub mod Heap
-- How an entry moves to its place.
pub mod Sifts
