-- What node records promise. Definitions only.

-- The tree as a lent list of node records.
pub mod Records
