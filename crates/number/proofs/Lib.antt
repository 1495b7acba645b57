-- The laws of the number layer, and what its functions' proofs share.

-- ---- laws of rounding: what the geometry cites
-- Every operation is its exact value, rounded once.
pub mod Operations
-- One rounding: where it is exact, its order, its error.
pub mod RoundingLaws
-- Sums, differences, products, halves and quotients of exact values.
pub mod ExactLaws
-- Comparisons of exact values are those of whole numbers.
pub mod Compare
-- The order of all floats, infinities included.
pub mod OrderLaws
-- Magnitudes, minimum, maximum and clamp in that order.
pub mod MagnitudeOrder
-- The larger of a number and a magnitude, and the clamp to 0..1, by comparisons.
pub mod ChoiceLaws
-- The sign bit, and what is computed by it.
pub mod SignLaws
-- Finite values: magnitudes, sizes of rounded results.
pub mod Values
-- Sums, differences, products and quotients keep the order of floats.
pub mod Monotone
-- ---- the square root
-- The definition means the nearest double to the exact root.
pub mod NearestRoot
-- Order, sign.
pub mod SqrtLaws
-- ---- hypot: what the geometry cites
-- Signs, order of the arguments, monotone, never negative.
pub mod HypotLaws
-- When it is zero.
pub mod HypotZero
-- One zero argument.
pub mod HypotAxis
-- The relative error.
pub mod HypotError
-- How large it is.
pub mod HypotRange
-- Which of two is less, by the sums of the squares.
pub mod HypotClear
-- ---- what those rest on
pub mod Basics
pub mod Tests
pub mod Squares
pub mod FloorRoot
pub mod Units
pub mod Doubles
pub mod NearRoot
pub mod Fields
pub mod CloseRoot
pub mod PlusLaws
