-- Laws of `any_at`.

-- Whether some member passes a test, by a search from the first member on.
pub mod AnyLaws
-- What `any_at` lists, and its answer.
pub mod ListedLaws
-- What `any_at` tells.
pub mod AnyAt
-- Where a call that passes the tests tells yes.
pub mod AcceptedYes
