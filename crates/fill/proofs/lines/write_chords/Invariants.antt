-- `fill::lines::write_chords` meets its contract: the chords so far, with the edges that are left, are the outline's edges shortened. Assumes nothing.
use mathlib.Core.List.{◌++◌}
use Prim.Native.Nat.{◌-◌, ◌≤◌}
use Rattle.lists.specs.Lists.{run}
use Rattle.boundary.specs.Outline.{count, edge_at, edges}
use Rattle.clip.specs.Lent.{lines_from}
use Rattle.clip.specs.Shortened.{Shortened}
use Rattle.fill.proofs.lines.write_chords.Given as goal

abbrev pub invariant-loop-i : goal.invariant-loop-i
invariant-loop-i l = (l.i ≤ count l.v) × (l.at ≤ l.i) × (l.beyond ≤ l.i)
    × Shortened l.low l.high l.beyond (edges l.v) (lines_from l.front 0 0 l.at ++ run (edge_at l.v) l.i (count l.v - l.i))

abbrev pub decreases-loop-i : goal.decreases-loop-i
decreases-loop-i l = count l.v - l.i
