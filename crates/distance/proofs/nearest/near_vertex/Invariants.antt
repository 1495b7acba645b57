-- `distance::nearest::near_vertex` meets its contract. Assumes nothing.
use Prim.Native.Nat.{◌<◌}
use Rattle.boundary.specs.Outline.{count}
use Rattle.distance.proofs.nearest.near_vertex.Given as goal

abbrev pub invariant-loop-i : goal.invariant-loop-i
invariant-loop-i l = l.k < count l.v
