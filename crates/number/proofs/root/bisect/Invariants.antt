-- `number::root::bisect` meets its contract: the root stays between the two ends, and in the end they are neighbours. Assumes nothing.
use Rattle.std.proofs.Common.{◌+◌, ◌-◌, ◌*◌, ◌^◌, ◌<◌, ◌≤◌}
use Rattle.number.proofs.root.bisect.Given as goal

abbrev pub invariant-loop-hi : goal.invariant-loop-hi
invariant-loop-hi l = (l.lo < l.hi) × (l.hi ≤ 2 ^ 53) × (l.lo * l.lo < l.c * 2 ^ 52 + l.lo) × (l.c * 2 ^ 52 + l.hi ≤ l.hi * l.hi)

abbrev pub decreases-loop-hi : goal.decreases-loop-hi
decreases-loop-hi l = l.hi - l.lo
