-- `tree::spans_of` meets its contract. Assumes nothing.
use Rattle.std.proofs.Common.{◌≡◌, drop}
use Rattle.boundary.specs.Boxes.{hull, stretched}
use Rattle.lists.specs.Lists.{fold}
use Rattle.boxes.specs.BoxLists.{box_at, point_in}
use Rattle.tree.specs.Tree.{hull_of, spread_of}
use Rattle.tree.proofs.spans_of.Given as goal

abbrev pub invariant-loop-k : goal.invariant-loop-k
invariant-loop-k l =
    (fold (λ b j. hull b (box_at l.entries.wide.now j)) l.s.hull (drop l.k-index l.list) ≡ hull_of (box_at l.entries.wide.now) l.list)
    × (fold (λ b j. stretched b (point_in l.entries.xs.now l.entries.ys.now j)) l.s.spread (drop l.k-index l.list) ≡ spread_of (point_in l.entries.xs.now l.entries.ys.now) l.list)
