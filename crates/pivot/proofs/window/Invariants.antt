-- `pivot::window` meets its contract. Assumes nothing.
use Rattle.std.proofs.Common.{◌≤◌, length}
use Rattle.pivot.proofs.window.Given as goal

abbrev pub invariant-loop-x : goal.invariant-loop-x
invariant-loop-x l = (l.below ≤ l.x-index) × (l.inside ≤ l.x-index) × (length l.list ≤ length l.initial.work)
