-- The square root of an `f64`, rounded once to the nearest, ties to even, as IEEE 754 has it, and what "nearest to the exact root" says. Definitions only.
use Rattle.std.specs.Prelude.{◌≡◌, ℕ, zero, suc, ◌+◌, ◌*◌, ◌/◌, ◌^◌, ◌<◌, ◌≤◌, false, cond, T, ◌⊎◌, ℤ, pos, ◌+ℤ◌, ◌*ℤ◌, ◌==◌, nat_le, nat_lt, Float}
use Rattle.std.specs.Float.{nan, inf, fin, binary64}
use Rattle.std.specs.Float.Ieee.{up, down, size, round, fits}
use Rattle.algebra.specs.Order.{◌≦◌, ◌≺◌}
use Rattle.number.specs.Exact.{Is}

-- The largest r with r * r ≤ n, for an n below 4 ^ k: twice the root of n / 4, or one more.
unfoldable pub root_below : ℕ → ℕ → ℕ
root_below zero n = 0
root_below (suc k) n = let r = 2 * root_below k (n / 4) in cond (nat_le ((r + 1) * (r + 1)) n) (r + 1) r

-- the largest r with r * r ≤ n
unfoldable pub floor_root : ℕ → ℕ
unfolding root_below size
floor_root n = root_below (size n) n

-- Twice the root of n, cut to a whole number that says by its last digit whether anything was cut off: it is even where n is a square, and odd otherwise.
unfoldable pub twice_root : ℕ → ℕ
unfolding floor_root
twice_root n = let r = floor_root n in 2 * r + cond (nat_lt (r * r) n) 1 0

-- the root of n / 2 ^ 1200, rounded once: the root of n is that of n / 2 ^ 1200 in units of 2 ^ -600
unfoldable pub root_of : ℕ → Float
unfolding twice_root round
root_of n = round binary64 false (twice_root n) (2 ^ 601)

-- The square root of x, rounded once. x * 2 ^ 1200 is a whole number for each x that an `f64` holds, since the smallest is 2 ^ -1074.
-- So `twice_root` has ten digits or more past the last one that an `f64` keeps, and the last of them says whether the root goes on.
-- A zero keeps its sign, and a number below zero has no root.
unfoldable pub sqrt_of : Float → Float
unfolding root_of
sqrt_of nan = nan
sqrt_of (inf s) = cond s nan (inf false)
sqrt_of (fin s m e) = cond (m == 0) (fin s m e) (cond s nan (root_of (m * up e * 2 ^ 1200 / down e)))

-- no minus sign, and no NaN: +0, a number above zero, or +infinity
pub data Plus : Float → Type 0 where
  plus_inf : Plus (inf false)
  plus_fin : (m : ℕ) (e : ℤ) → Plus (fin false m e)

-- q is the whole number nearest to the root of c * 2 ^ 52: (2 q - 1) ^ 2 < 4 c 2 ^ 52 < (2 q + 1) ^ 2, and nothing lies between 4 q q ± 4 q and that plus one
pub record NearestWhole (c q : ℕ) : Type 0 where
  pub low : q * q < c * 2 ^ 52 + q
  pub high : c * 2 ^ 52 ≤ q * q + q

-- ---- nearest to the exact root
-- In units of 2 ^ -1074 every finite double is a whole number. Where x is n units, its exact root is √X units, with X = n * 2 ^ 1074. So whole numbers are compared with the root, by their squares.

-- w < 2 √X: w is negative, or its square is below 4 X
abbrev pub BelowRoot : ℕ → ℤ → Type 0
BelowRoot X w = (w ≺ pos 0) ⊎ (w *ℤ w ≺ pos (4 * X))

-- 2 √X < w: w is not negative, and its square is above 4 X
abbrev pub AboveRoot : ℕ → ℤ → Type 0
AboveRoot X w = (pos 0 ≦ w) × (pos (4 * X) ≺ w *ℤ w)

-- R is strictly nearer to √X than Y is: the point halfway between them, (R + Y) / 2, is on Y's side of the root
abbrev pub Nearer : ℕ → ℤ → ℤ → Type 0
Nearer X R Y = ((R ≺ Y) × AboveRoot X (R +ℤ Y)) ⊎ ((Y ≺ R) × BelowRoot X (R +ℤ Y))

-- r, which is R units, is strictly nearer to the exact root of x, which is n units, than every other finite double, of either sign: r is the nearest, and there is no tie
pub record NearestRoot (x r : Float) : Type 0 where
  pub n : ℕ
  pub R : ℕ
  pub x_is : Is 1074 x (pos n)
  pub r_is : Is 1074 r (pos R)
  pub r_fits : T (fits binary64 r)
  pub nearest : (y : Float) (Y : ℤ) → T (fits binary64 y) → Is 1074 y Y → (Y ≡ pos R) ⊎ Nearer (n * 2 ^ 1074) (pos R) Y
