-- `distance::nearest::is_clear` meets its contract. Assumes nothing.
use mathlib.Core.Path.{sym}
use lib.Ieee.{of_bits}
use Rattle.boundary.proofs.KnownLaws.{owned_point}
use Rattle.distance.proofs.ClearLaws.{above_threshold}
use Rattle.distance.proofs.nearest.is_clear.Goals as goal

pub returns-then-m : goal.returns-then-m
unfolding of_bits
returns-then-m c =
    sym (above_threshold c.args.m c.requires.0 (owned_point c.well_formed.1.1.0 c.requires.1) c.if-m.true)
