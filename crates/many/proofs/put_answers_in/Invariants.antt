-- `many::put_answers_in` meets its contract: the answers so far stand at the front of both lists. Assumes nothing.
use mathlib.Core.Path.{◌≡◌}
use lib.Seq.{sets}
use Rattle.lists.specs.Lists.{run}
use Rattle.set.specs.Set.{outlines_of}
use Rattle.many.proofs.ManyLaws.{answer_at}
use Rattle.many.proofs.put_answers_in.Given as goal

abbrev pub invariant-loop-i : goal.invariant-loop-i
invariant-loop-i l =
    (l.near ≡ sets l.initial.near 0 (run (λ k. (answer_at (outlines_of l.view.set.vertices.now l.view.set.counts.now) l.ps k).outline) 0 l.i))
    × (l.distances ≡ sets l.initial.distances 0 (run (λ k. (answer_at (outlines_of l.view.set.vertices.now l.view.set.counts.now) l.ps k).distance) 0 l.i))
