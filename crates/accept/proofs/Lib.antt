-- Laws of what is accepted.

-- What an outline that passes the tests has.
pub mod TestLaws
-- What the tests hand over, and what it tells.
pub mod VerdictLaws
