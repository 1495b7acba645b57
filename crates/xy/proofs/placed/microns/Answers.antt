-- `xy::placed::microns` meets its contract. Assumes nothing.
use lib.Ieee.{of_bits}
use Rattle.stream.proofs.StepLaws.{small_same}
use Rattle.xy.specs.Outlines.{microns_of}
use Rattle.xy.proofs.NumberLaws.{whole_fits}
use Rattle.xy.proofs.placed.microns.Goals as goal

pub int_to_float-result : goal.int_to_float-result
int_to_float-result c = rw (small_same _ c.requires) (whole_fits _ c.requires)

pub returns : goal.returns
unfolding microns_of of_bits
returns c = rw (small_same _ c.requires)
