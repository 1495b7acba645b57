-- `viskunor::outlines::vk_outline_perimeter` meets its contract. Assumes nothing.
use Rattle.viskunor.proofs.outlines.vk_outline_perimeter.Goals as goal

pub returns : goal.returns
returns c = rw (c.fields-number.ensures, c.perimeter.ensures)
