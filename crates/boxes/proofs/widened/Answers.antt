-- `boxes::widened` meets its contract. Assumes nothing.
use Rattle.boundary.specs.Boxes.{widened_of}
use lib.Ieee.{of_bits}
use Rattle.boxes.proofs.widened.Goals as goal

pub returns : goal.returns
unfolding widened_of of_bits
returns c = rw (c.box_from.ensures, c.scale-m.ensures)
