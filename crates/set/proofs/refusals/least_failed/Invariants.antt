-- `set::refusals::least_failed` meets its contract: the least so far and the outlines that are left give the least of all. Assumes nothing.
use mathlib.Core.Path.{◌≡◌}
use mathlib.Core.List.{List}
use Prim.Native.Nat.{ℕ, ◌-◌, ◌*◌, min}
use lib.ListN.{length}
use lib.Ieee.{Float}
use Rattle.lists.specs.Lists.{run, fold}
use Rattle.set.specs.Set.{start_of, outline_at, outlines_of}
use Rattle.set.specs.OnePass.{first_failed, least_failed}
use Rattle.set.proofs.refusals.least_failed.Given as goal

abbrev step : ℕ → List Float → ℕ
step n o = min n (first_failed o)

abbrev pub invariant-loop-count : goal.invariant-loop-count
invariant-loop-count l =
    (l.at ≡ 2 * start_of l.set.counts.now l.count-index) × (fold step l.least (run (outline_at l.set.vertices.now l.set.counts.now) l.count-index (length l.set.counts.now - l.count-index)) ≡ least_failed (outlines_of l.set.vertices.now l.set.counts.now))
