-- `viskunor::outlines::vk_outline_bounds` meets its contract. Assumes nothing.
use Rattle.viskunor.proofs.outlines.vk_outline_bounds.Goals as goal

pub returns : goal.returns
returns c = rw (c.fields-number.ensures, c.bounds.ensures)
