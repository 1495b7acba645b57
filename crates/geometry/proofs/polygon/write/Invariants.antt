-- `geometry::polygon::write` meets its contract: the points so far stand at the front, and the places past them are as they were. Assumes nothing.
use mathlib.Core.Path.{◌≡◌}
use mathlib.Core.List.{◌++◌}
use Prim.Native.Nat.{◌*◌}
use lib.ListN.{drop}
use Rattle.lists.specs.Lists.{run}
use Rattle.geometry.specs.Making.{coordinates_of}
use Rattle.geometry.proofs.WriteLaws.{point_at}
use Rattle.geometry.proofs.polygon.write.Given as goal

abbrev pub invariant-loop-i : goal.invariant-loop-i
invariant-loop-i g l = l.out ≡ coordinates_of (run (point_at (g.V.Vertices.numbers l.v) l.back) 0 l.i) ++ drop (2 * l.i) l.initial.out
