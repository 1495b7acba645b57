-- `stream::any_far` meets its contract: what was found so far and the numbers that are left give the answer. Assumes nothing.
use mathlib.Core.Path.{◌≡◌}
use mathlib.Core.Bool.{Bool, ◌||◌}
use Prim.Native.Nat.{◌-◌}
use lib.IntN.{ℤ}
use Rattle.lists.specs.Lists.{run, fold}
use Rattle.stream.specs.Bytes.{step_at}
use Rattle.stream.specs.Records.{far_step, any_far}
use Rattle.stream.proofs.any_far.Given as goal

abbrev found : Bool → ℤ → Bool
found b z = b || far_step z

abbrev pub invariant-loop-k : goal.invariant-loop-k
invariant-loop-k l = fold found l.found (run (step_at l.s l.from) l.k (l.n - l.k)) ≡ any_far (run (step_at l.s l.from) 0 l.n)
