-- `viskunor::outlines::vk_outline_area` meets its contract. Assumes nothing.
use Rattle.viskunor.proofs.outlines.vk_outline_area.Goals as goal

pub returns : goal.returns
returns c = rw (c.fields-number.ensures, c.area.ensures)
