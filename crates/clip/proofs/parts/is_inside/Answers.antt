-- `clip::parts::is_inside` meets its contract: what is above a bound is not above ∞, unless it is a NaN, and likewise below. Assumes nothing.
use mathlib.Core.Path.{◌≡◌, refl}
use mathlib.Core.Bool.{Bool, true, false, ◌&&◌, cond}
use lib.Ieee.{Float, nan, inf, fin, le, of_bits, div, neg}
use Rattle.clip.proofs.parts.is_inside.Goals as goal

and_true : (b : Bool) → b && true ≡ b
and_true true = refl
and_true false = refl

-- no float is above or below a NaN
nan_right : (v : Float) → le v nan ≡ false
unfolding le
nan_right nan = refl
nan_right (inf s) = refl
nan_right (fin s m e) = refl

above-all : (v c : Float) → le v c && le c (inf false) ≡ le v c
unfolding le
above-all v nan = rw (nan_right v)
above-all v (inf true) = and_true (le v (inf true))
above-all v (inf false) = and_true (le v (inf false))
above-all v (fin s m e) = and_true (le v (fin s m e))

below_all : (v c : Float) → le (inf true) c && le c v ≡ le c v
unfolding le
below_all v nan = refl
below_all v (inf true) = refl
below_all v (inf false) = refl
below_all v (fin s m e) = refl

between : (above : Bool) (v c : Float) → le (cond above v (inf true)) c && le c (cond above (inf false) v) ≡ cond above (le v c) (le c v)
between true v c = above-all v c
between false v c = below_all v c

pub returns : goal.returns
unfolding of_bits div neg
returns c = rw (c.pick-hi.ensures, c.pick-lo.ensures) (between c.args.s.above c.args.s.v c.args.c)
