-- What one rounding of an `f64` gives. Definitions only. Assumes nothing.
use Rattle.std.specs.Prelude.{◌≡◌, ℕ, ◌^◌, ◌<◌, Bool, ◌⊎◌, ℤ, pos, ◌-ℤ◌, ◌*ℤ◌, Float}
use Rattle.std.specs.Float.{binary64}
use Rattle.std.specs.Float.Ieee.{round}
use Rattle.algebra.specs.Order.{◌≦◌, Within, absℤ}
use Rattle.algebra.specs.Sign.{signed}
use Rattle.number.specs.Exact.{Is}

-- x is the fraction n / c, rounded once; past the largest value it is an infinity
pub record Rounds (x : Float) (n : ℤ) (c : ℕ) : Type 0 where
  pub sign : Bool
  pub mag : ℕ
  pub den_pos : 0 < c
  pub same : x ≡ round binary64 sign mag c
  pub val : signed sign mag ≡ n

-- R units are n / c units rounded, where a unit is 2 ^ -1074. The rounding was to a multiple of 2 ^ k units.
-- `near` says that R is within half of 2 ^ k of n / c.
-- `size` says that k is no larger than 53 digits ask for: it is 0, where every multiple of the unit is a value, or n / c is 2 ^ (52 + k) at least.
pub record Rounded (R n c : ℤ) : Type 0 where
  pub k : ℕ
  pub near : Within (pos 2 *ℤ (R *ℤ c -ℤ n)) (pos (2 ^ k) *ℤ c)
  pub size : (k ≡ 0) ⊎ (pos (2 ^ 52) *ℤ (pos (2 ^ k) *ℤ c) ≦ absℤ n)

-- x is finite, and n / c units of 2 ^ -1074, rounded once
pub record Result (x : Float) (n c : ℤ) : Type 0 where
  pub R : ℤ
  pub is : Is 1074 x R
  pub rnd : Rounded R n c
