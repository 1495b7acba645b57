-- `set::outlines::put_starts` meets its contract: the starts so far stand at the front. Assumes nothing.
use mathlib.Core.Path.{◌≡◌}
use lib.Seq.{sets}
use Rattle.lists.specs.Lists.{run}
use Rattle.set.specs.Set.{start_of}
use Rattle.set.proofs.outlines.put_starts.Given as goal

abbrev pub invariant-loop-k : goal.invariant-loop-k
invariant-loop-k l = (l.sum ≡ start_of l.counts l.k) × (l.starts ≡ sets l.initial.starts 0 (run (start_of l.counts) 0 l.k))
