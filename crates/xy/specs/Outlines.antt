-- An outline as an XY record holds it: coordinates in steps, which making takes as doubles in µm. Definitions only.
use Rattle.std.specs.Prelude.{◌≡◌, false, List, map, ℕ, ◌+◌, ◌*◌, ◌≤◌, ℤ, pos, length, take, drop, Err, Float}
use Rattle.std.specs.Float.{fin, binary64}
use Rattle.std.specs.Float.Ieee.{div, of_int}
use Rattle.boundary.specs.declared.Point.{Point}
use Rattle.boundary.specs.Outline.{count}
use Rattle.accept.specs.declared.Refusal.TheVariants.{BeyondReach}
use Rattle.accept.specs.Refusals.{Test, all_passed, ◌refusing◌when◌, given, negative_area, shape_tested}
use Rattle.geometry.specs.Making.{kept}
use Rattle.stream.specs.Bytes.{steps_in, step_at}
use Rattle.stream.specs.Records.{any_far}
use Rattle.xy.specs.declared.Makings.{Makings}

-- z steps in µm: z / 1,024
unfoldable pub microns_of : ℤ → Float
microns_of z = div binary64 (of_int binary64 z) (fin false 1 (pos 10))

-- the numbers of an outline whose coordinates are zs in steps
abbrev pub numbers_of : List ℤ → List Float
numbers_of zs = map microns_of zs

-- how many vertices it is made with: without a closing vertex
abbrev pub made_count : List ℤ → ℕ
made_count zs = count (kept (numbers_of zs))

-- the tests that follow the record: 18, then the outline's own, as making has them
unfoldable pub xy_tested : List ℤ → Test
unfolding given ◌refusing◌when◌ shape_tested kept
xy_tested zs = given (all_passed refusing BeyondReach when any_far zs) (shape_tested (kept (numbers_of zs))) Err

-- what making finds of it: how many vertices it is made with, and whether its area is negative, so that it is reversed
abbrev pub makings_of : List ℤ → Makings
makings_of zs = record { vertices = made_count zs; reversed = negative_area (kept (numbers_of zs)) }

-- ---- by place
-- the coordinates of n vertices, of 8 bytes each, from place `from` of s on: in steps, and in µm
abbrev pub steps_from : List ℕ → ℕ → ℕ → List ℤ
steps_from s from n = steps_in (take (8 * n) (drop from s))

abbrev pub numbers_from : List ℕ → ℕ → ℕ → List Float
numbers_from s from n = numbers_of (steps_from s from n)

-- vertex i of them
abbrev pub vertex_from : List ℕ → ℕ → ℕ → Point
vertex_from s from i = record { x = microns_of (step_at s from (2 * i)); y = microns_of (step_at s from (2 * i + 1)) }

-- they are all in the stream, and none is beyond the reach
pub record InReach (s : List ℕ) (from n : ℕ) : Type 0 where
  pub within : from + 8 * n ≤ length s
  pub near : any_far (steps_from s from n) ≡ false
