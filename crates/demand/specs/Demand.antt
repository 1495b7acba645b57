-- Demand 3, of the set that the lists v and cs are and a query point p on the grid, which is q in steps. Definitions only.
use Rattle.std.specs.Prelude.{Some}
use Rattle.std.specs.Prelude.{◌≡◌, false, List, ℕ, ◌<◌, length, Ok, Float}
use Rattle.number.specs.Signs.{abs_of}
use Rattle.boundary.specs.declared.Point.{Point}
use Rattle.index.specs.Buffer.{IndexBuffer, short_buffer}
use Rattle.set.specs.Set.{outlines_of, outline_in}
use Rattle.search.specs.declared.Best.{Best}
use Rattle.search.specs.Least.{magnitude_at}
use Rattle.nearest.specs.Nearest.{NearestIs}
use Rattle.nearest.specs.Answers.{nearest_outcome}
use Rattle.grid.specs.Whole.{PointZ}
use Rattle.exact.specs.OneOutline.{OutlineExact}

-- The nearest answer is the least of the magnitudes, with the lowest number among the outlines that have it (`NearestIs`), and the call answers it in an index buffer
pub record NearestLeast (v : List Float) (cs : List ℕ) (p : Point) : Type 0 where
  pub best : Best
  pub answer : (B : IndexBuffer) → short_buffer B ≡ false → (nearest_outcome v cs p B).answer ≡ Ok (Some best)
  pub is : NearestIs (outlines_of v cs) p best

-- All of it holds together: of every outline area, location, containment and distance (`OutlineExact`), and of the set the nearest answer, by the magnitudes of
-- these distances
pub record Demand3 (v : List Float) (cs : List ℕ) (p : Point) (q : PointZ) : Type 0 where
  pub outlines : (k : ℕ) → k < length (outlines_of v cs) → OutlineExact (outline_in (outlines_of v cs) k) p q
  pub magnitudes : (k : ℕ) (l : k < length (outlines_of v cs)) → magnitude_at (outlines_of v cs) p k ≡ abs_of (outlines k l).distance.d
  pub nearest : NearestLeast v cs p
