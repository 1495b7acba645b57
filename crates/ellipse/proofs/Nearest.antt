-- The nearest point of an ellipse around (0, 0): finite, and in the quadrant of the query. Assumes nothing.
use mathlib.Core.Path.{◌≡◌, refl}
use mathlib.Core.Logic.{inl, inr, ⊎_elim}
use mathlib.Core.Bool.{Bool, true, false, cond}
use lib.Dec.{T}
use lib.Ieee.{Float, neg, le, lt, eq, fits}
use Rattle.number.specs.Exact.{Held, zeroᶠ}
use Rattle.number.specs.Signs.{abs_of}
use Rattle.number.proofs.SignLaws.{copysign_sign}
use Rattle.number.proofs.Basics.{or_split}
use Rattle.number.proofs.OrderLaws.{below_le, not_below}
use Rattle.number.proofs.MagnitudeOrder.{abs_bounds}
use Rattle.number.proofs.Values.{zero_held, abs_held, held_not_nan}
use Rattle.boundary.specs.declared.Point.{Point}
use Rattle.distance.specs.Ellipse.{long_nearest, ellipse_nearest, swapped}
use Rattle.ellipse.specs.Ellipse.{least_offset}
use Rattle.ellipse.specs.Meaning.{SemiAxis, most_offset, Offset, InQuadrant, QuadrantPoint}
use Rattle.ellipse.proofs.Ranges.{Bounded, tested_range, equal_range, copysign_range, abs_range}
use Rattle.ellipse.proofs.Quadrant.{AxisRange, OnOrOffAxis, quadrant_range}

-- q is at most 2 ^ 92 either way, and in the quadrant of p
pub record FoundPoint (p q : Point) : Type 0 where
  pub x : Bounded 92 q.x
  pub y : Bounded 92 q.y
  pub quadrant : InQuadrant p q

-- ---- what is given
axis_range : {a : Float} → SemiAxis a → AxisRange a
unfolding fits
axis_range {a} A = tested_range a A.fits A.test tt

offset_held : {d : Float} → Offset d → Held d
offset_held {d} D = record { fits = D.fits; finite = abs_bounds d most_offset tt D.most }

offset_on_or_off : {d : Float} → Offset d → OnOrOffAxis (abs_of d)
unfolding neg le fits
offset_on_or_off {d} D =
    let H = offset_held D in
    ⊎_elim (λ t. inl (abs_range (equal_range H zero_held t) tt))
    (λ t. inr (record { from = record { fits = tt; finite = tt }; to = record { fits = tt; finite = tt }; held = abs_held H; low = t; high = D.most }))
    (or_split (eq d zeroᶠ) (le least_offset (abs_of d)) D.least)

-- ---- the signs restored
module _ {a b : Float} (A : AxisRange a) (B : AxisRange b) {p : Point} (X : Offset p.x) (Y : Offset p.y) where
  long_found : T (le b a) → FoundPoint p (long_nearest a b p)
  unfolding long_nearest neg le fits
  long_found l =
      let Q = quadrant_range A B l (offset_on_or_off X) (offset_on_or_off Y) in
      record {
        x = copysign_range p.x Q.x tt tt;
        y = copysign_range p.y Q.y tt tt;
        quadrant = record { x = copysign_sign _ p.x (held_not_nan Q.x.held); y = copysign_sign _ p.y (held_not_nan Q.y.held) };
      }

found_swapped : {p q : Point} → FoundPoint (swapped p) q → FoundPoint p (swapped q)
found_swapped F = record { x = F.y; y = F.x; quadrant = record { x = F.quadrant.y; y = F.quadrant.x } }

pub ellipse_found : {a b : Float} {p : Point} → SemiAxis a → SemiAxis b → Offset p.x → Offset p.y → FoundPoint p (ellipse_nearest a b p)
unfolding ellipse_nearest
ellipse_found {a} {b} {p} a-is b-is X Y = go (lt a b) refl
  where
    A : AxisRange a
    A = axis_range a-is

    B : AxisRange b
    B = axis_range b-is

    go : (c : Bool) → lt a b ≡ c → FoundPoint p (cond c (swapped (long_nearest b a (swapped p))) (long_nearest a b p))
    go true e = found_swapped (long_found B A Y X (below_le a b e))
    go false e = long_found A B X Y (not_below a b (held_not_nan A.held) (held_not_nan B.held) e)

-- ---- the theorem
pub quadrant_point : {a b : Float} {p : Point} → SemiAxis a → SemiAxis b → Offset p.x → Offset p.y → QuadrantPoint p (ellipse_nearest a b p)
quadrant_point A B X Y = let F = ellipse_found A B X Y in record { finite = record { x = F.x.held.finite; y = F.y.held.finite }; quadrant = F.quadrant }
