-- Laws of the nearest query for many points.

-- What the work has and leaves.
pub mod ManyLaws
-- What a call that passes the tests answers: what single calls do, one by one.
pub mod OneByOne
