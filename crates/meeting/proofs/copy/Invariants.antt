-- `meeting::copy` meets its contract: the items so far are stored. Assumes nothing.
use Rattle.meeting.proofs.WalkLaws.{Puts}
use Rattle.nodes.specs.Layout.{item_at}
use Rattle.lists.specs.Lists.{run}
use lib.ListN.{length}
use Prim.Native.Nat.{◌≤◌, ◌-◌}
use mathlib.Core.Path.{◌≡◌}
use Rattle.meeting.proofs.copy.Given as goal

abbrev pub invariant-loop-i : goal.invariant-loop-i
invariant-loop-i l =
    (l.j ≤ length l.list) × (length l.list ≡ length l.initial.list) × Puts l.initial.list l.k (run (item_at l.view.items.now) l.first (l.i - l.first)) l.list l.j
