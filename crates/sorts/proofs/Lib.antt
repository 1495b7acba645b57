-- Laws of the sort.

-- A slice's first m, and then the rest, changed in place.
pub mod Lists
-- The order by key and then by number is total and transitive.
pub mod Order
-- What sorting keeps.
pub mod SortLaws
-- Sorting twice, sorting what is in order, and sorting what a pivot parts.
pub mod PartLaws
-- The parts that a selection leaves are, as sets, the halves by the sort.
pub mod SelectLaws
-- What std's sorts leave.
pub mod StdSorts
