-- The nearest point of an ellipse whose axes lie along x and y (document 01, boundary.rs): `ellipse_nearest` in the Rust's names and order. Definitions only.
use Rattle.std.specs.Prelude.{◌||◌, cond, ℕ, zero, suc, Float}
use Rattle.std.specs.Float.{binary64}
use Rattle.std.specs.Float.Ieee.{add, sub, mul, div, lt, eq}
use Rattle.number.specs.Exact.{zeroᶠ, one}
use Rattle.number.specs.Root.{sqrt_of}
use Rattle.number.specs.Hypot.{hypot_of}
use Rattle.number.specs.Signs.{abs_of, copysign_of, max_of}
use Rattle.boundary.specs.declared.Point.{Point}
use Rattle.distance.specs.declared.Curve.{Curve}
use Rattle.boundary.specs.declared.Near.{Near}
use Rattle.boundary.specs.Line.{middle}

abbrev pub square : Float → Float
square x = mul binary64 x x

-- x² + y² - 1
abbrev pub excess : Float → Float → Float
excess x y = sub binary64 (add binary64 (square x) (square y)) one

-- ---- the root of G(s) = (n0/(s + r0))² + (z1/(s + 1))² - 1, by halving
unfoldable pub curve_at : Curve → Float → Float
curve_at c s = excess (div binary64 c.n0 (add binary64 s c.r0)) (div binary64 c.z1 (add binary64 s one))

-- at most so many halvings of s0 to s1, where s is the last middle; they end where the middle is an end, or G there is neither above nor below zero
unfoldable pub halve : Curve → ℕ → Float → Float → Float → Float
unfolding curve_at eq lt
halve c zero s s0 s1 = s
halve c (suc n) s s0 s1 =
    let m = middle s0 s1 in
    let gs = curve_at c m in
    cond (eq m s0 || eq m s1) m
    (cond (lt zeroᶠ gs) (halve c n m m s1)
    (cond (lt gs zeroᶠ) (halve c n m s0 m) m))

unfoldable pub halved_of : Curve → Float → Float → Float
unfolding halve
halved_of c s0 s1 = halve c 1100 s0 s0 s1

-- ---- the first quadrant, with a ≥ b: the point nearest to (y0, y1)
-- where the root is sought: from z1 - 1 to 0 for a point inside, and to √(n0² + z1²) - 1 for one outside
unfoldable pub upper_end : Float → Float → Float → Float
unfolding lt
upper_end g n0 z1 = cond (lt g zeroᶠ) zeroᶠ (sub binary64 (hypot_of n0 z1) one)

unfoldable pub curve_of : Float → Float → Float → Float → Curve
curve_of a b z0 z1 = let r0 = square (div binary64 a b) in record { n0 = mul binary64 r0 z0; r0 = r0; z1 = z1 }

unfoldable pub root_in : Curve → Float → Float
unfolding upper_end
root_in c g = halved_of c (sub binary64 c.z1 one) (upper_end g c.n0 c.z1)

-- the point that a root s stands for
unfoldable pub foot_at : Float → Float → Float → Float → Point
foot_at r0 y0 y1 s = record { x = div binary64 (mul binary64 r0 y0) (add binary64 s r0); y = div binary64 y1 (add binary64 s one) }

-- a point off both axes
unfoldable pub off_axes : Float → Float → Float → Float → Point
unfolding eq curve_of root_in foot_at
off_axes a b y0 y1 =
    let z0 = div binary64 y0 a in
    let z1 = div binary64 y1 b in
    let g = excess z0 z1 in
    let c = curve_of a b z0 z1 in
    cond (eq g zeroᶠ) (record { x = y0; y = y1 }) (foot_at c.r0 y0 y1 (root_in c g))

-- a point on the longer axis
unfoldable pub on_axis : Float → Float → Float → Point
unfolding lt
on_axis a b y0 =
    let denom = sub binary64 (square a) (square b) in
    let x = div binary64 (mul binary64 (square a) y0) denom in
    let xa = div binary64 x a in
    cond (lt (mul binary64 a y0) denom)
    (record { x = x; y = mul binary64 b (sqrt_of (max_of (sub binary64 one (square xa)) zeroᶠ)) })
    (record { x = a; y = zeroᶠ })

unfoldable pub quadrant_nearest : Float → Float → Float → Float → Point
unfolding lt off_axes on_axis
quadrant_nearest a b y0 y1 = cond (lt zeroᶠ y1) (cond (lt zeroᶠ y0) (off_axes a b y0 y1) (record { x = zeroᶠ; y = b })) (on_axis a b y0)

-- ---- the whole ellipse (x/a)² + (y/b)² = 1
-- where a ≥ b: in the first quadrant, the signs restored
unfoldable pub long_nearest : Float → Float → Point → Point
unfolding quadrant_nearest
long_nearest a b p =
    let q = quadrant_nearest a b (abs_of p.x) (abs_of p.y) in
    record { x = copysign_of q.x p.x; y = copysign_of q.y p.y }

abbrev pub swapped : Point → Point
swapped p = record { x = p.y; y = p.x }

-- where a < b the axes are swapped
unfoldable pub ellipse_nearest : Float → Float → Point → Point
unfolding lt long_nearest
ellipse_nearest a b p = cond (lt a b) (swapped (long_nearest b a (swapped p))) (long_nearest a b p)

-- ---- the ellipse with its centre: the point less the centre, and the answer moved back
unfoldable pub ellipse_foot : Point → Float → Float → Point → Point
unfolding ellipse_nearest
ellipse_foot c a b p =
    let q = ellipse_nearest a b (record { x = sub binary64 p.x c.x; y = sub binary64 p.y c.y }) in
    record { x = add binary64 c.x q.x; y = add binary64 c.y q.y }

-- document 01 gives an ellipse no normal: it has (1, 0), as a line without length has
unfoldable pub ellipse_near : Point → Float → Float → Point → Near
unfolding ellipse_foot
ellipse_near c a b p = let q = ellipse_foot c a b p in record { d = hypot_of (sub binary64 p.x q.x) (sub binary64 p.y q.y); q = q; n = record { x = one; y = zeroᶠ } }
