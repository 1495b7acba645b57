-- Laws of lists.

-- Runs of values.
pub mod RunLaws
-- Folds, and whether some member passes a test.
pub mod FoldLaws
-- Lists related member by member, how often a number occurs, and what holds of every member.
pub mod MemberLaws
-- Runs of stores into a list.
pub mod StoreLaws
-- What is written to the front of a list, and zeros there.
pub mod FrontLaws
-- A list with members left out.
pub mod SublistLaws
-- A truth value as a number.
pub mod BitLaws
