-- `accept::refusals::point_in_field` meets its contract. Assumes nothing.
use Rattle.accept.proofs.refusals.point_in_field.Goals as goal

pub returns : goal.returns
returns c = rw (c.in_field-2.ensures, c.in_field.ensures)
