-- The bridge between ℤ and a sign with a magnitude, as lib.Ieee's floats are: `fin s m e` is ±m · 2 ^ e. `signed s m` is that ±m, as an integer.
-- A float's operations hand `round` a fraction of a signed numerator and a natural denominator; these laws say what integer the numerator is.
use Rattle.std.specs.Prelude.{Bool, true, false, ℕ, ℤ, pos, negsuc, neg_ℤ}

abbrev pub signed : Bool → ℕ → ℤ
signed false m = pos m
signed true m = neg_ℤ (pos m)

abbrev pub sign : ℤ → Bool
sign (pos n) = false
sign (negsuc n) = true
