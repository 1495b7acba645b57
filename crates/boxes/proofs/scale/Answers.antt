-- `boxes::scale` meets its contract. Assumes nothing.
use Rattle.boundary.specs.Boxes.{scale_of}
use lib.Ieee.{of_bits, le, lt, eq}
use Rattle.boxes.proofs.scale.Goals as goal

pub larger-left-requires : goal.larger-left-requires
unfolding of_bits le lt eq
larger-left-requires c = tt

pub returns : goal.returns
unfolding scale_of of_bits
returns c = rw (c.larger.ensures.0, c.larger-right.ensures.0, c.larger-bottom.ensures.0, c.larger-left.ensures.0)
