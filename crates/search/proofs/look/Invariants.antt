-- `search::look` meets its contract: the best so far and the items that are left give the best of all. Assumes nothing.
use mathlib.Core.Path.{◌≡◌}
use Prim.Native.Nat.{◌+◌, ◌-◌}
use Rattle.lists.specs.Lists.{run, fold}
use Rattle.nodes.specs.Layout.{item_at}
use Rattle.set.specs.Set.{outlines_of}
use Rattle.search.specs.Least.{magnitude_at}
use Rattle.search.specs.Walk.{improved, Clear, best_of}
use Rattle.search.proofs.look.Given as goal

abbrev pub invariant-loop-i : goal.invariant-loop-i
invariant-loop-i l =
    (fold (λ b k. improved b k (magnitude_at (outlines_of l.view.set.vertices.now l.view.set.counts.now) l.p k)) l.kept.best (run (item_at l.index.items.now) (l.first + l.i) (l.count - l.i)) ≡ best_of (magnitude_at (outlines_of l.view.set.vertices.now l.view.set.counts.now) l.p) l.initial.kept.best (run (item_at l.index.items.now) l.first l.count))
    × Clear l.p l.kept
