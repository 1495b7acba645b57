-- `index::refusals::any_unfit` meets its contract: what was found so far and the boxes that are left give the answer. Assumes nothing.
use Rattle.boundary.specs.Boxes.{box_fits}
use Rattle.boxes.specs.BoxLists.{box_count, box_at, boxes_of}
use Rattle.lists.specs.Lists.{run, fold, any}
use Rattle.boundary.specs.declared.Bounds.{Bounds}
use Prim.Native.Nat.{◌-◌}
use mathlib.Core.Bool.{Bool, not, ◌||◌}
use mathlib.Core.Path.{◌≡◌}
use Rattle.index.proofs.refusals.any_unfit.Given as goal

abbrev step : Bool → Bounds → Bool
step f b = f || not (box_fits b)

abbrev pub invariant-loop-i : goal.invariant-loop-i
invariant-loop-i l = fold step l.found (run (box_at l.boxes) l.i (box_count l.boxes - l.i)) ≡ any (λ b. not (box_fits b)) (boxes_of l.boxes)
