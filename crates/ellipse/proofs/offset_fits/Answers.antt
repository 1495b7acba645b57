-- `ellipse::offset_fits` meets its contract. Assumes nothing.
use lib.Ieee.{of_bits}
use Rattle.ellipse.specs.Ellipse.{offset_fits}
use Rattle.ellipse.proofs.offset_fits.Goals as goal

pub returns : goal.returns
unfolding offset_fits of_bits
returns c = rw c.abs.ensures
