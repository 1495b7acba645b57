-- `geometry::polygon::box_of` meets its contract: the box so far and the vertices that are left give the box of all. Assumes nothing.
use mathlib.Core.Path.{◌≡◌}
use Prim.Native.Nat.{◌-◌}
use Rattle.lists.specs.Lists.{run, fold}
use Rattle.boundary.specs.Outline.{count, vertex_at, vertices}
use Rattle.boundary.specs.Boxes.{stretched}
use Rattle.geometry.specs.Polygon.{bounds_of}
use Rattle.geometry.proofs.polygon.box_of.Given as goal

abbrev pub invariant-loop-i : goal.invariant-loop-i
invariant-loop-i l = fold stretched l.b (run (vertex_at l.v) l.i (count l.v - l.i)) ≡ bounds_of (vertices l.v)
