-- What the sort promises. Definitions only.

-- Lists of numbers sorted and parted, under any order.
pub mod Sort
-- The order of numbers by a key, then by number.
pub mod Keys
