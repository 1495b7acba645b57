-- `viskunor::ellipses::vk_ellipse_nearest` meets its contract. Assumes nothing.
use Rattle.viskunor.proofs.ellipses.vk_ellipse_nearest.Goals as goal

pub returns : goal.returns
returns c = rw (c.fields-number.ensures, c.ellipse_nearest-answer.ensures)
