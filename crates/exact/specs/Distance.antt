-- A distance within 2 ^ -24 of a step of the *exact distance* (document 01), put in whole numbers. Definitions only.
use Rattle.std.specs.Prelude.{◌≡◌, List, ◌^◌, ℤ, pos, ◌+ℤ◌, ◌-ℤ◌, ◌*ℤ◌, Float}
use Rattle.algebra.specs.Order.{◌≦◌, ◌≺◌, absℤ}
use Rattle.number.specs.Exact.{Is}
use Rattle.grid.specs.Whole.{PointZ, EdgeZ, location_z}
use Rattle.grid.specs.Distance.{ExactDistance}

-- ---- within 2 ^ -24 of a step
-- a step, 2 ^ -10 µm, and 2 ^ -24 of a step, in units of 2 ^ -1074 µm
abbrev pub step : ℤ
step = pos (2 ^ 1064)

abbrev pub tolerance : ℤ
tolerance = pos (2 ^ 1040)

-- √(num / den) steps are at most u units and 2 ^ -24 of a step: num / den ≤ (u + 2 ^ -24) ², multiplied out
pub record AtMost (u num den : ℤ) : Type 0 where
  pub holds : num *ℤ (step *ℤ step) ≦ (u +ℤ tolerance) *ℤ (u +ℤ tolerance) *ℤ den

-- and at least u units less 2 ^ -24 of a step: (u - 2 ^ -24) ² ≤ num / den, unless u - 2 ^ -24 is below 0
pub record AtLeast (u num den : ℤ) : Type 0 where
  pub holds : tolerance ≦ u → (u -ℤ tolerance) *ℤ (u -ℤ tolerance) *ℤ den ≦ num *ℤ (step *ℤ step)

-- the float d is not negative, and within 2 ^ -24 of a step of √(num / den) steps
pub record Near24 (d : Float) (num den : ℤ) : Type 0 where
  pub u : ℤ
  pub is : Is 1074 d u
  pub plus : pos 0 ≦ u
  pub above : AtMost u num den
  pub below : AtLeast u num den

-- ---- an outline's distance
-- The signed distance d of q from the edges fs: its magnitude is within 2 ^ -24 of a step of the exact distance, which is √(num / den) steps;
-- it is negative at inside points and positive at outside ones
pub record SignedNear (fs : List EdgeZ) (q : PointZ) (d : Float) : Type 0 where
  pub z : ℤ
  pub is : Is 1074 d z
  pub num : ℤ
  pub den : ℤ
  pub exact : ExactDistance fs q num den
  pub above : AtMost (absℤ z) num den
  pub below : AtLeast (absℤ z) num den
  pub inside : location_z fs q ≡ 2 → z ≺ pos 0
  pub outside : location_z fs q ≡ 0 → pos 0 ≺ z
