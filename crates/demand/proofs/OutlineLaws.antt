-- Where a set's numbers are on the grid, those of each outline are. Assumes nothing.
use mathlib.Core.List.{List}
use Prim.Native.Nat.{ℕ, ◌*◌}
use lib.ListN.{get_or, take, drop}
use lib.Ieee.{Float}
use Rattle.lists.proofs.MemberLaws.{take_each, drop_each}
use Rattle.set.specs.Set.{start_of, outline_at, outlines_of, outline_in}
use Rattle.set.proofs.SetLaws.{outline_is}
use Rattle.grid.specs.Grid.{OutlineOn}

part_on : (v : List Float) (cs : List ℕ) → OutlineOn v → (k : ℕ) → OutlineOn (outline_at v cs k)
unfolding outline_at
part_on v cs g k = record { steps = take (2 * get_or cs k 0) (drop (2 * start_of cs k) g.steps); on = take_each (2 * get_or cs k 0) (drop_each (2 * start_of cs k) g.on) }

pub outline_on : (v : List Float) (cs : List ℕ) → OutlineOn v → (k : ℕ) → OutlineOn (outline_in (outlines_of v cs) k)
outline_on v cs g k = rw (outline_is v cs k) (part_on v cs g k)
