-- Absolute value, copysign, minimum, maximum and clamp (document 01, "Number helpers"), by IEEE 754. Definitions only.
use Rattle.std.specs.Prelude.{Bool, false, cond, ◌&&◌, ◌||◌, Float}
use Rattle.std.specs.Float.{nan, inf, fin}
use Rattle.std.specs.Float.Ieee.{lt, eq, is_nan}

-- The sign is a bit: a zero has one too. The logic's one NaN has none, so it counts as not negative.
unfoldable pub sign_bit : Float → Bool
sign_bit nan = false
sign_bit (inf s) = s
sign_bit (fin s m e) = s

-- x with the sign s
unfoldable pub with_sign : Bool → Float → Float
with_sign s nan = nan
with_sign s (inf t) = inf s
with_sign s (fin t m e) = fin s m e

-- the magnitude of x
unfoldable pub abs_of : Float → Float
unfolding with_sign
abs_of x = with_sign false x

-- the magnitude of x with the sign of y
unfoldable pub copysign_of : Float → Float → Float
unfolding with_sign sign_bit
copysign_of x y = with_sign (sign_bit y) x

-- x stands before y: it is less, or the two are equal and x has the sign, so that -0 stands before +0
unfoldable pub stands_before : Float → Float → Bool
unfolding lt eq sign_bit
stands_before x y = lt x y || (eq x y && sign_bit x)

-- IEEE 754-2019's minimumNumber and maximumNumber: a number wins over a NaN, and -0 is below +0
unfoldable pub min_of : Float → Float → Float
unfolding is_nan stands_before
min_of x y = cond (is_nan x) y (cond (is_nan y || stands_before x y) x y)

unfoldable pub max_of : Float → Float → Float
unfolding is_nan stands_before
max_of x y = cond (is_nan x) y (cond (is_nan y || stands_before y x) x y)

-- lo where x is below it, hi where x is above it, and x otherwise: also where x is NaN
unfoldable pub clamp_of : Float → Float → Float → Float
unfolding lt
clamp_of x lo hi = cond (lt x lo) lo (cond (lt hi x) hi x)
