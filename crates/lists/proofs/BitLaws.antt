-- A truth value as a number. Assumes nothing.
use mathlib.Core.Path.{◌≡◌, refl}
use mathlib.Core.Bool.{Bool, true, false, cond}
use Rattle.std.specs.Int.{from_bool}

-- what `u32::from` and `usize::from` give of one
pub one_or_zero : (b : Bool) → from_bool b ≡ cond b 1 0
one_or_zero true = refl
one_or_zero false = refl
