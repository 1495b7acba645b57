-- Exact values: which fraction of whole numbers a float is. Definitions only. Assumes nothing.
use Rattle.std.specs.Prelude.{◌≡◌, ℕ, ◌^◌, ◌<◌, ◌≤◌, Bool, false, ◌&&◌, T, List, length, ℤ, pos, int_le, slice_index_or, unsigned_abs, Float}
use Rattle.std.specs.Float.{nan, fin, binary64}
use Rattle.std.specs.Float.Ieee.{fits}
use Rattle.std.specs.Float.Ieee.Exact.{HasValue}
use Rattle.std.specs.Float.Ieee.Scale.{finite}
use Rattle.algebra.specs.Sign.{signed}

-- The float x is exactly z / 2 ^ k; a zero has either sign. Every finite `f64` is one for k = 1074, since the smallest is 2 ^ -1074.
pub record Is (k : ℕ) (x : Float) (z : ℤ) : Type 0 where
  pub sign : Bool
  pub mag : ℕ
  pub has : HasValue x sign mag (2 ^ k)
  pub is : signed sign mag ≡ z

-- x is exactly z / 2 ^ k, and z has a magnitude of at most n
pub record Sized (k n : ℕ) (x : Float) (z : ℤ) : Type 0 where
  pub is : Is k x z
  pub near : unsigned_abs z ≤ n

-- x is a finite number of `f64`
pub record Held (x : Float) : Type 0 where
  pub fits : T (fits binary64 x)
  pub finite : T (finite x)

-- every number of the list is an `f64`: so it is of every list that a call is lent
pub record Doubles (v : List Float) : Type 0 where
  pub each : (i : ℕ) → i < length v → T (fits binary64 (slice_index_or v i nan))

-- +0 and 1
abbrev pub zeroᶠ : Float
zeroᶠ = fin false 0 (pos 0)

abbrev pub one : Float
one = fin false 1 (pos 0)

-- whether two whole numbers are equal
abbrev pub eq_z : ℤ → ℤ → Bool
eq_z z w = int_le z w && int_le w z
