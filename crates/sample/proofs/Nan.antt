-- What a test says of a bit pattern: it is no NaN's. Assumes nothing.
use mathlib.Core.Path.{sym, subst}
use mathlib.Core.Bool.{Bool, not}
use Prim.Native.Nat.{ℕ, ◌*◌, ◌%◌, ◌^◌, ◌≤◌}
use lib.Dec.{T}
use lib.Arith.{le→nltb}
use lib.Ieee.{binary64, nan_bits}
use lib.Ieee.Bits.{nan_bits_above}

-- a pattern that is at most the infinity's, its sign left out, is no NaN's
pub low_bits_not_nan : (n : ℕ) → n % 2 ^ 63 ≤ 2047 * 2 ^ 52 → T (not (nan_bits binary64 n))
low_bits_not_nan n h = subst (λ (b : Bool). T (not b)) (sym (nan_bits_above binary64 n)) (le→nltb (2047 * 2 ^ 52) (n % 2 ^ 63) h)
