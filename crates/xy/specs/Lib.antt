-- An outline as an XY record holds it (document 02, U3). Definitions only.

-- Its numbers, and its vertices by place.
pub mod Outlines
