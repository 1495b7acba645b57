-- `viskunor::outlines::vk_outline_distance` meets its contract. Assumes nothing.
use Rattle.viskunor.proofs.outlines.vk_outline_distance.Goals as goal

pub returns : goal.returns
returns c = rw (c.fields-number.ensures, c.distance.ensures)
