-- `viskunor::outlines::vk_outline_contains` meets its contract. Assumes nothing.
use Rattle.viskunor.proofs.outlines.vk_outline_contains.Goals as goal

pub returns : goal.returns
returns c = rw (c.fields-number.ensures, c.contains.ensures)
