-- What document 01 says by example. Definitions only.

-- Its starred examples.
pub mod Examples
