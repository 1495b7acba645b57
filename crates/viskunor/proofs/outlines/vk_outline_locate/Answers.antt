-- `viskunor::outlines::vk_outline_locate` meets its contract. Assumes nothing.
use Rattle.viskunor.proofs.outlines.vk_outline_locate.Goals as goal

pub returns : goal.returns
returns c = rw (c.fields-number.ensures, c.locate.ensures)
