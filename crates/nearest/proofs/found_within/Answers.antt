-- `nearest::found_within` meets its contract. Assumes nothing.
use native.Mathlib.Omega.{arith}
use Rattle.nearest.proofs.found_within.Goals as goal

pub found_in-requires : goal.found_in-requires
found_in-requires g c =
    (c.requires.0, c.requires.1, record { some = c.requires.2; starts = omega arith; boxes = omega arith })
