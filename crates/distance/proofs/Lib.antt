-- Laws of pieces and of the distance.

-- What the halving loop cites.
pub mod HalveLaws
-- The threshold that selects the normal, over the whole field.
pub mod ClearLaws
-- The search for the nearest edge.
pub mod SearchLaws
-- An outline's edges as pieces.
pub mod PieceLaws
