-- `geometry::polygon::is_on` meets its contract. Assumes nothing.
use lib.Ieee.{of_bits}
use Rattle.geometry.specs.Polygon.{on_edge}
use Rattle.geometry.proofs.polygon.is_on.Goals as goal

pub returns : goal.returns
unfolding on_edge of_bits
returns c = rw (c.is_between-2.ensures, c.is_between.ensures, c.cross.ensures)
