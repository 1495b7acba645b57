-- Laws of the tree.

-- The axis along which the centres spread wider.
pub mod AxisLaws
-- The box around a node's boxes.
pub mod HullLaws
-- Neither the order of a node's entries nor which minimum and maximum are taken shows in its box, but for a zero's sign, nor in the axis.
pub mod AnyOrder
-- One split of the tree, and its items.
pub mod TreeLaws
-- The items as a split leaves them.
pub mod ArrangedLaws
