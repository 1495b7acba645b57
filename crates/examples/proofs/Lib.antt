-- What document 01 says by example, proved.

-- The starred examples hold: `starred_hold`.
pub mod Examples
