-- `sorts::dealt` meets its contract. Assumes nothing.
use Rattle.std.proofs.Common.{length, ◌≤◌}
use Rattle.sorts.specs.Sort.{Dealt}
use Rattle.sorts.specs.Keys.{ahead, key_in}
use Rattle.sorts.proofs.dealt.Given as goal

abbrev pub invariant-loop-i : goal.invariant-loop-i
invariant-loop-i l = (length l.initial.s ≤ length l.initial.t) × Dealt (ahead (key_in l.keys) l.pivot.key l.pivot.number) l.initial.s l.initial.t l.s l.t l.a l.i
