-- The signed distance from an outline's edges (document 01, boundary.rs: `distance`, `signed`). Definitions only.
use Rattle.std.specs.Prelude.{Bool, false, cond, List, negsuc, Float}
use Rattle.std.specs.Float.{inf, fin, binary64}
use Rattle.std.specs.Float.Ieee.{sub, mul, div, neg, lt}
use Rattle.number.specs.Exact.{zeroᶠ, one}
use Rattle.number.specs.Signs.{abs_of, max_of}
use Rattle.boundary.specs.declared.Point.{Point}
use Rattle.boundary.specs.declared.Edge.{Edge}
use Rattle.boundary.specs.declared.Near.{Near}
use Rattle.boundary.specs.declared.Distance.{Distance}
use Rattle.boundary.specs.Line.{line_near}
use Rattle.lists.specs.Lists.{fold}

-- ---- `distance`: the first among equals
abbrev pub nearer : Near → Near → Near
nearer best c = cond (lt c.d best.d) c best

-- before the first edge
abbrev pub far_away : Point → Near
far_away p = record { d = inf false; q = p; n = record { x = one; y = zeroᶠ } }

unfoldable pub nearest_of : List Edge → Point → Near
unfolding fold
nearest_of es p = fold (λ best e. nearer best (line_near e p)) (far_away p) es

-- ---- `signed`: the magnitude is kept, and the threshold selects only the normal
-- 16 × 2 ^ -52
abbrev pub units16 : Float
units16 = fin false 1 (negsuc 47)

unfoldable pub rounding_of : Point → Point → Float
rounding_of q p = mul binary64 units16 (max_of (max_of (max_of (abs_of p.x) (abs_of p.y)) (abs_of q.x)) (abs_of q.y))

-- -x where the point is inside
abbrev pub flipped : Bool → Float → Float
flipped inside x = cond inside (neg x) x

-- the normal away from the edge, along the line to p, of one axis
abbrev pub away_along : Bool → Float → Float → Float → Float
away_along inside p q d = flipped inside (div binary64 (sub binary64 p q) d)

-- magnitude 0 gives +0
unfoldable pub signed_of : Near → Point → Bool → Distance
unfolding rounding_of
signed_of c p inside =
    cond (lt (rounding_of c.q p) c.d)
    (record { d = flipped inside c.d; v = record { x = away_along inside p.x c.q.x c.d; y = away_along inside p.y c.q.y c.d } })
    (cond (lt zeroᶠ c.d) (record { d = flipped inside c.d; v = c.n }) (record { d = zeroᶠ; v = c.n }))
