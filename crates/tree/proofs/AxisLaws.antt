-- The axis along which the centres spread wider. Assumes nothing.
use mathlib.Core.Path.{◌≡◌}
use mathlib.Core.Bool.{Bool}
use mathlib.Core.List.{List}
use Prim.Native.Nat.{ℕ}
use lib.Ieee.{binary64, sub, lt}
use Rattle.boundary.specs.declared.Point.{Point}
use Rattle.boundary.specs.declared.Bounds.{Bounds}
use Rattle.tree.specs.Tree.{spread_of, along_y}

-- what the code's test of the centres' box says
pub wider_along : (P : ℕ → Point) (is : List ℕ) (b : Bounds) (t : Bool) → b ≡ spread_of P is → lt (sub binary64 b.max.x b.min.x) (sub binary64 b.max.y b.min.y) ≡ t → along_y P is ≡ t
unfolding along_y spread_of
wider_along P is b t e h = rw e at h
