-- The length of (a, b), as an `f64`. Definitions only.
use Rattle.std.specs.Prelude.{Bool, false, cond, ◌&&◌, T, pos, negsuc, Float}
use Rattle.std.specs.Float.{fin, binary64}
use Rattle.std.specs.Float.Ieee.{mul, add, lt, eq, le}
use Rattle.number.specs.Exact.{Held, zeroᶠ}
use Rattle.number.specs.Root.{sqrt_of}
use Rattle.number.specs.Signs.{abs_of}

-- √(a * a + b * b), each of the four operations rounded once
unfoldable pub hypot_of : Float → Float → Float
unfolding sqrt_of add mul
hypot_of a b = sqrt_of (add binary64 (mul binary64 a a) (mul binary64 b b))

-- the square of a rounds to zero
unfoldable pub vanishes : Float → Bool
unfolding mul eq
vanishes a = eq (mul binary64 a a) zeroᶠ

-- from 2 ^ -511 up to 2 ^ 512, that one not included, a square neither underflows nor overflows
abbrev pub square_least : Float
square_least = fin false 1 (negsuc 510)

abbrev pub square_end : Float
square_end = fin false 1 (pos 512)

-- ---- which of two lengths is less, told by the sums of the squares

-- 1 + 2 ^ -40: far more than the errors of the sums and of the lengths together
abbrev pub slack : Float
slack = fin false 1099511627777 (negsuc 39)

-- 2 ^ -900: below it the squares' absolute errors could matter
abbrev pub tiny : Float
tiny = fin false 1 (negsuc 899)

-- s is so far below t that, of two lengths with these sums of squares, the first is less
unfoldable pub clearly_less : Float → Float → Bool
unfolding mul lt
clearly_less s t = lt tiny t && lt (mul binary64 slack s) t

-- what is above this is so far above s
abbrev pub clear_limit : Float → Float
clear_limit s = let u = mul binary64 slack s in cond (lt tiny u) u tiny

-- 2 ^ 23: more than any difference of two coordinates of the field
abbrev pub short_end : Float
short_end = fin false 1 (pos 23)

-- x is a finite number of `f64`, of magnitude at most 2 ^ 23
pub record Short (x : Float) : Type 0 where
  pub held : Held x
  pub size : T (le (abs_of x) short_end)
