-- `boxes::widen` meets its contract: the boxes so far stand at the front, and so do their centres' coordinates. Assumes nothing.
use mathlib.Core.List.{flat_map}
use Rattle.std.proofs.Common.{◌≡◌}
use lib.Seq.{sets}
use Rattle.lists.specs.Lists.{run}
use Rattle.boxes.specs.BoxLists.{box_numbers, wide_at, centre_of}
use Rattle.boxes.proofs.widen.Given as goal

abbrev pub invariant-loop-i : goal.invariant-loop-i
invariant-loop-i l = (l.wide ≡ sets l.initial.wide 0 (flat_map box_numbers (run (wide_at l.boxes) 0 l.i))) × (l.xs ≡ sets l.initial.xs 0 (run (λ j. (centre_of (wide_at l.boxes j)).x) 0 l.i)) × (l.ys ≡ sets l.initial.ys 0 (run (λ j. (centre_of (wide_at l.boxes j)).y) 0 l.i))
