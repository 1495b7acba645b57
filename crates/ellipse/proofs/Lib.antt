-- The laws of the nearest point of an ellipse.

-- ---- the theorems
-- The answer of the call: `oval-answer`.
pub mod Answer
-- The nearest point to an offset from the centre: `oval-point`.
pub mod Nearest
-- ---- what they rest on
-- The nearest point in the first quadrant.
pub mod Quadrant
-- The ranges of what each operation gives.
pub mod Ranges
