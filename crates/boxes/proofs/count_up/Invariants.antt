-- `boxes::count_up` meets its contract: the numbers so far stand at the front. Assumes nothing.
use Rattle.std.proofs.Common.{◌≡◌}
use lib.Seq.{sets}
use Rattle.lists.specs.Lists.{run}
use Rattle.boxes.proofs.count_up.Given as goal

abbrev pub invariant-loop-i : goal.invariant-loop-i
invariant-loop-i l = l.items ≡ sets l.initial.items 0 (run (λ j. j) 0 l.i)
