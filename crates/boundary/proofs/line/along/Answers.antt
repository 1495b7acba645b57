-- `boundary::line::along` meets its contract. Assumes nothing.
use lib.Ieee.{of_bits}
use Rattle.boundary.specs.Line.{along_of}
use Rattle.boundary.proofs.line.along.Goals as goal

pub returns : goal.returns
unfolding along_of of_bits
returns c = c.pick.ensures
