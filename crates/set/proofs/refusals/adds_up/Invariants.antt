-- `set::refusals::adds_up` meets its contract: the counts so far and what is left make n. Assumes nothing.
use mathlib.Core.Path.{◌≡◌}
use Prim.Native.Nat.{◌+◌}
use Rattle.set.specs.Set.{start_of}
use Rattle.set.proofs.refusals.adds_up.Given as goal

abbrev pub invariant-loop-count : goal.invariant-loop-count
invariant-loop-count l = start_of l.counts l.count-index + l.left ≡ l.n
