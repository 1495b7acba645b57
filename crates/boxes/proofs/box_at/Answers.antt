-- `boxes::box_at` meets its contract. Assumes nothing.
use Rattle.boxes.specs.BoxLists.{box_at}
use borrow.Author.Rules.{rules}
use Rattle.boxes.proofs.box_at.Goals as goal

pub returns-then-k-v : goal.returns-then-k-v
unfolding box_at
returns-then-k-v c = search rules

pub returns : goal.returns
unfolding box_at
returns c = rw (c.box_from-2.ensures, c.number_at-left.ensures, c.number_at-bottom.ensures, c.number_at-right.ensures, c.number_at-top.ensures)
