-- `set::outlines::put_box` meets its contract. Assumes nothing.
use Rattle.set.proofs.outlines.put_box.Goals as goal

pub returns : goal.returns
returns c = rw (c.put_box.ensures, c.box_of.ensures, c.outline_from.ensures)
