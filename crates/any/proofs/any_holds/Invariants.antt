-- `any::any_holds` meets its contract: the outlines so far do not contain the point, and those that are left give the answer. Assumes nothing.
use mathlib.Core.Path.{◌≡◌}
use mathlib.Core.Bool.{false}
use lib.ListN.{drop}
use Rattle.lists.specs.Lists.{fold, any}
use Rattle.set.specs.Set.{outlines_of}
use Rattle.any.specs.Answers.{contains_in}
use Rattle.any.proofs.AnyLaws.{any_step}
use Rattle.any.proofs.any_holds.Given as goal

abbrev pub invariant-loop-k : goal.invariant-loop-k
invariant-loop-k l = fold (any_step (contains_in (outlines_of l.set.vertices.now l.set.counts.now) l.p)) false (drop l.k-index l.list) ≡ any (contains_in (outlines_of l.set.vertices.now l.set.counts.now) l.p) l.list
