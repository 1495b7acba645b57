-- Demand 3 of one outline and one point, on the grid: area, location and containment are exactly those of whole-number geometry, and the distance is within
-- 2 ^ -24 of a step of the exact one. What making leaves there. Definitions only.
use Rattle.std.specs.Prelude.{◌≡◌, cond, List, ℤ, Ok, Float}
use Rattle.algebra.specs.Order.{absℤ}
use Rattle.number.specs.Exact.{Is}
use Rattle.boundary.specs.declared.Point.{Point}
use Rattle.boundary.specs.declared.Distance.{Distance}
use Rattle.boundary.specs.Outline.{edges}
use Rattle.accept.specs.Area.{area_of}
use Rattle.accept.specs.Refusals.{all_passed, outline_tested}
use Rattle.geometry.specs.Answers.{area_answer, locate_answer, contains_answer, distance_answer}
use Rattle.geometry.specs.Making.{kept}
use Rattle.grid.specs.Grid.{OutlineOn}
use Rattle.grid.specs.Whole.{PointZ, EdgeZ, shoelace_z, inside_z, location_z}
use Rattle.exact.specs.Grid.{EdgesOn}
use Rattle.exact.specs.Distance.{SignedNear}

-- The outline o and the query point p, which is q in steps. The operations answer so:
pub record OutlineExact (o : List Float) (p : Point) (q : PointZ) : Type 0 where
  -- the edges in steps
  pub whole : List EdgeZ
  pub on : EdgesOn (edges o) whole
  -- area: half the exact shoelace sum. A square step is 2 ^ -20 square µm, half of one 2 ^ -21
  pub area : Float
  pub area_answer_lem : area_answer o ≡ Ok area
  pub area_exact : Is 21 area (shoelace_z whole)
  -- location: 0 outside, 1 boundary, 2 inside
  pub location : locate_answer o p ≡ Ok (location_z whole q)
  -- containment: yes, 1, where a ray to the right crosses an odd number of edges, by the crossing rule worked exactly; on the boundary too
  pub containment : contains_answer o p ≡ Ok (cond (inside_z whole q) 1 0)
  -- distance: within 2 ^ -24 of a step of the exact distance in magnitude, negative inside and positive outside
  pub distance : Distance
  pub distance_answer_lem : distance_answer o p ≡ Ok distance
  pub distance_near : SignedNear whole q distance.d

-- The outline w that is made of v: it is on the grid and passes tests 1 to 9, and its area is the magnitude of that before it was reversed
pub record MadeOn (v w : List Float) : Type 0 where
  pub on : OutlineOn w
  pub accepted : outline_tested w ≡ all_passed
  pub magnitude : {z : ℤ} → Is 21 (area_of (edges (kept v))) z → Is 21 (area_of (edges w)) (absℤ z)
