-- `index::building::hull_wide` meets its contract. Assumes nothing.
use Rattle.boxes.specs.BoxLists.{box_count, wide_at}
use Rattle.boundary.specs.Boxes.{hull}
use Rattle.tree.specs.Tree.{hull_of}
use Rattle.lists.specs.Lists.{run, fold}
use Prim.Native.Nat.{◌-◌}
use mathlib.Core.Path.{◌≡◌}
use Rattle.index.proofs.building.hull_wide.Given as goal

abbrev pub invariant-loop-i : goal.invariant-loop-i
invariant-loop-i l = fold (λ b j. hull b (wide_at l.boxes j)) l.b (run (λ j. j) l.i (box_count l.boxes - l.i)) ≡ hull_of (wide_at l.boxes) (run (λ j. j) 0 (box_count l.boxes))
