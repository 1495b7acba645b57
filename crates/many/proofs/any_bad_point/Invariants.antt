-- `many::any_bad_point` meets its contract: what was found so far and the points that are left give the answer. Assumes nothing.
use mathlib.Core.Path.{◌≡◌}
use mathlib.Core.Bool.{Bool, not, ◌||◌}
use Prim.Native.Nat.{◌-◌}
use Rattle.boundary.specs.declared.Point.{Point}
use Rattle.boundary.specs.Boxes.{point_in_field}
use Rattle.boundary.specs.Outline.{count, vertex_at}
use Rattle.lists.specs.Lists.{run, fold}
use Rattle.many.specs.Answers.{any_bad_point}
use Rattle.many.proofs.any_bad_point.Given as goal

abbrev step : Bool → Point → Bool
step f p = f || not (point_in_field p)

abbrev pub invariant-loop-i : goal.invariant-loop-i
invariant-loop-i l = fold step l.found (run (vertex_at l.ps) l.i (count l.ps - l.i)) ≡ any_bad_point l.ps
