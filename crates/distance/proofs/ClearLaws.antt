-- What `signed` rests on: over the whole field its threshold is at most 2 ^ -25, and the normal comes from the signed distance as from the magnitude. Assumes nothing.
use mathlib.Core.Path.{◌≡◌, refl, sym, subst}
use mathlib.Core.Bool.{Bool, true, false}
use native.Mathlib.Nat.{le_trans}
use lib.Dec.{T, lit≤}
use lib.Ieee.{Float, binary64, mul, div, lt, le, eq, fits}
use lib.Ieee.Bits.{is_true}
use Rattle.number.specs.Exact.{Held}
use Rattle.number.specs.Hypot.{short_end, Short}
use Rattle.number.specs.Signs.{abs_of}
use Rattle.number.proofs.RoundingLaws.{div_opposite}
use Rattle.number.proofs.Monotone.{mul_mono_left}
use Rattle.number.proofs.OrderLaws.{through_below}
use Rattle.number.proofs.MagnitudeOrder.{max_one_of}
use Rattle.number.proofs.Values.{abs_held, is_short}
use Rattle.boundary.specs.declared.Point.{Point}
use Rattle.boundary.specs.Boxes.{PointOf, FieldValue, FieldPoint}
use Rattle.distance.specs.Nearest.{units16, rounding_of, flipped}
use Rattle.distance.specs.Search.{most_threshold}
use Rattle.boundary.proofs.FieldLaws.{field_is}

-- a magnitude of at most 2 ^ 23
record Magnitude (x : Float) : Type 0 where
  held : Held x
  size : T (le x short_end)

magnitude : {x : Float} → Short x → Magnitude (abs_of x)
magnitude h = record { held = abs_held h.held; size = h.size }

field_short : {x : Float} → FieldValue x → Short x
field_short h = let z = field_is h in is_short {z = z.0} (record { is = z.1.is; near = le_trans z.1.near (lit≤ tt) }) h.fits

threshold : {q p : Point} → PointOf Short q → FieldPoint p → T (le (rounding_of q p) most_threshold)
unfolding rounding_of mul
threshold {q} {p} Q P =
    let m = max_one_of Magnitude (max_one_of Magnitude (max_one_of Magnitude (magnitude (field_short P.x)) (magnitude (field_short P.y))) (magnitude Q.x)) (magnitude Q.y) in
    mul_mono_left {x = units16} {y' = short_end} (record { fits = unfold fits in tt; finite = tt }) m.held (record { fits = unfold fits in tt; finite = tt }) (unfold le lt eq in tt) m.size

-- so what is above 2 ^ -25 is above it
pub above_threshold : {q p : Point} (m : Float) → PointOf Short q → FieldPoint p → lt most_threshold m ≡ true → lt (rounding_of q p) m ≡ true
above_threshold {q} {p} m Q P h = is_true (lt (rounding_of q p) m) (through_below (rounding_of q p) most_threshold m (threshold Q P) (subst T (sym h) tt))

-- what is divided by the signed distance has the sign of the normal
pub away_signed : (inside : Bool) (x m : Float) → div binary64 x (flipped inside m) ≡ flipped inside (div binary64 x m)
away_signed true x m = div_opposite binary64 x m
away_signed false x m = refl
