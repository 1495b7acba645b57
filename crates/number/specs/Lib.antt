-- What the number layer promises. Definitions only.

-- Absolute value, copysign, minimum, maximum, clamp.
pub mod Signs
-- The square root, and what "nearest to the exact root" says.
pub mod Root
-- The length of (a, b).
pub mod Hypot
-- Which fraction of whole numbers a float is.
pub mod Exact
-- What one rounding gives.
pub mod Rounding
