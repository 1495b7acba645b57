-- `boundary::line::normal` meets its contract. Assumes nothing.
use lib.Ieee.{of_bits}
use Rattle.boundary.specs.Line.{normal_of}
use Rattle.boundary.proofs.line.normal.Goals as goal

pub returns : goal.returns
unfolding normal_of of_bits
returns c =
    rw (c.pick-2.ensures, c.pick.ensures, c.sqrt-l.ensures, c.squares.ensures, c.way-w.ensures)
