-- `boundary::all_held` meets its contract: the numbers read so far are held. Assumes nothing.
use Rattle.std.proofs.Common.{ℕ, ◌<◌, T, get_or}
use lib.Ieee.{nan, binary64, fits}
use Rattle.boundary.proofs.all_held.Given as goal

abbrev pub invariant-loop-x : goal.invariant-loop-x
invariant-loop-x l = (j : ℕ) → j < l.x-index → T (fits binary64 (get_or l.v j nan))
