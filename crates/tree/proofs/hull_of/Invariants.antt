-- `tree::hull_of` meets its contract: the box so far and the items that are left give the box of all. Assumes nothing.
use Rattle.std.proofs.Common.{◌≡◌, drop}
use Rattle.boundary.specs.Boxes.{hull}
use Rattle.lists.specs.Lists.{fold}
use Rattle.boxes.specs.BoxLists.{box_at}
use Rattle.tree.specs.Tree.{hull_of}
use Rattle.tree.proofs.hull_of.Given as goal

abbrev pub invariant-loop-k : goal.invariant-loop-k
invariant-loop-k l = fold (λ b j. hull b (box_at l.entries.wide.now j)) l.b (drop l.k-index l.list) ≡ hull_of (box_at l.entries.wide.now) l.list
