-- `accept::refusals::box_fits` meets its contract. Assumes nothing.
use Rattle.boundary.specs.Boxes.{box_fits}
use Rattle.accept.proofs.refusals.box_fits.Goals as goal

pub returns : goal.returns
unfolding box_fits
returns c = rw (c.in_field-4.ensures, c.in_field-3.ensures, c.in_field-2.ensures, c.in_field.ensures)
