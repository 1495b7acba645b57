-- `sorts::copied` meets its contract. Assumes nothing.
use Rattle.sorts.proofs.Lists.{Copying}
use Rattle.sorts.proofs.copied.Given as goal

abbrev pub invariant-loop-i : goal.invariant-loop-i
invariant-loop-i l = Copying l.s l.initial.t l.t l.i
