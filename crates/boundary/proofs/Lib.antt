-- Laws of the boundary layer.

-- The vertices and edges of an outline.
pub mod OutlineLaws
-- Values of the field, and boxes of such.
pub mod FieldLaws
-- The nearest point of an edge lies between its ends, widened, of one axis.
pub mod AlongLaws
-- It lies in the widened box.
pub mod BoxLaws
-- The gap of a box is at most the distance: `gap_around`.
pub mod GapLaws
-- The box around two boxes, and boxes that are the same but for the signs of zeros.
pub mod AroundLaws
-- The box around two boxes by IEEE 754's minimum and maximum, as the Rust has it.
pub mod MinMaxLaws
-- What owning a point or an edge tells.
pub mod KnownLaws
