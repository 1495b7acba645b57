-- `boxes::centre` meets its contract. Assumes nothing.
use Rattle.boxes.specs.BoxLists.{centre_of}
use Rattle.boxes.proofs.centre.Goals as goal

pub returns : goal.returns
unfolding centre_of
returns c = rw (c.middle_of-2.ensures, c.middle_of.ensures)
