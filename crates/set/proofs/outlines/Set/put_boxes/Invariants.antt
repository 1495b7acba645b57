-- `set::outlines::Set::put_boxes` meets its contract: the boxes so far stand at the front. Assumes nothing.
use mathlib.Core.Path.{◌≡◌}
use mathlib.Core.List.{List, flat_map}
use Prim.Native.Nat.{◌*◌}
use lib.Seq.{sets}
use lib.Ieee.{Float}
use Rattle.lists.specs.Lists.{run}
use Rattle.boundary.specs.Outline.{vertices}
use Rattle.geometry.specs.Polygon.{bounds_of}
use Rattle.boxes.specs.BoxLists.{box_numbers}
use Rattle.set.specs.Set.{start_of, outline_at}
use Rattle.set.proofs.outlines.Set.put_boxes.Given as goal

abbrev boxed : List Float → List Float
boxed o = box_numbers (bounds_of (vertices o))

abbrev pub invariant-loop-k : goal.invariant-loop-k
invariant-loop-k l = (l.at ≡ 2 * start_of l.self.counts.now l.k) × (l.boxes ≡ sets l.initial.boxes 0 (flat_map boxed (run (outline_at l.self.vertices.now l.self.counts.now) 0 l.k)))
