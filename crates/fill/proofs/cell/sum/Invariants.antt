-- `fill::cell::sum` meets its contract: the sum so far and the lines that are left give the whole. Assumes nothing.
use mathlib.Core.Path.{◌≡◌}
use Prim.Native.Nat.{◌-◌}
use lib.Ieee.{binary64, add}
use Rattle.lists.specs.Lists.{fold, total}
use Rattle.clip.specs.Lent.{room_of, lines_from}
use Rattle.fill.specs.Fill.{xdy_of}
use Rattle.fill.proofs.cell.sum.Given as goal

abbrev pub invariant-loop-i : goal.invariant-loop-i
invariant-loop-i l = fold (λ s e. add binary64 s (xdy_of e)) l.sum (lines_from l.lines 0 l.i (room_of l.lines - l.i)) ≡ total xdy_of (lines_from l.lines 0 0 (room_of l.lines))
