-- `meeting`: the items of each leaf whose box shares a point with the cell, the first child's leaves first (document 01, index.rs). Definitions only.
use Rattle.std.specs.Prelude.{Bool, cond, ◌||◌, List, [], ◌++◌, ℕ}
use Rattle.std.specs.Float.Ieee.{lt}
use Rattle.boundary.specs.declared.Point.{Point}
use Rattle.boundary.specs.declared.Bounds.{Bounds}
use Rattle.boundary.specs.Boxes.{Inside}
use Rattle.tree.specs.Tree.{Tree, leaf, inner}

-- the box b and the cell c share a point
pub record SharedPoint (b c : Bounds) : Type 0 where
  pub point : Point
  pub in_box : Inside point b
  pub in_cell : Inside point c

-- they share none
unfoldable pub apart : Bounds → Bounds → Bool
unfolding lt
apart b c = lt c.max.x b.min.x || (lt b.max.x c.min.x || (lt c.max.y b.min.y || lt b.max.y c.min.y))

unfoldable pub meeting_of : Bounds → Tree → List ℕ
unfolding apart
meeting_of c (leaf b is) = cond (apart b c) [] is
meeting_of c (inner b l r) = meeting_of c l ++ meeting_of c r

-- the same as the Rust walks: a node whose box shares no point is left with all below it
unfoldable pub visited_of : Bounds → Tree → List ℕ
unfolding apart
visited_of c (leaf b is) = cond (apart b c) [] is
visited_of c (inner b l r) = cond (apart b c) [] (visited_of c l ++ visited_of c r)
