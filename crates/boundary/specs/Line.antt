-- `Piece::nearest` of a line (document 01, boundary.rs). Definitions only.
use Rattle.std.specs.Prelude.{false, cond, negsuc, Float}
use Rattle.std.specs.Float.{fin, binary64}
use Rattle.std.specs.Float.Ieee.{add, sub, mul, div, neg, lt, eq}
use Rattle.number.specs.Exact.{zeroᶠ, one}
use Rattle.number.specs.Root.{sqrt_of}
use Rattle.number.specs.Hypot.{hypot_of}
use Rattle.number.specs.Signs.{clamp_of}
use Rattle.boundary.specs.declared.Point.{Point}
use Rattle.boundary.specs.declared.Edge.{Edge}
use Rattle.boundary.specs.declared.Near.{Near}

abbrev pub half : Float
half = fin false 1 (negsuc 0)

-- half the sum
abbrev pub middle : Float → Float → Float
middle s0 s1 = mul binary64 half (add binary64 s0 s1)

-- p less q
abbrev pub less_point : Point → Point → Point
less_point p q = record { x = sub binary64 p.x q.x; y = sub binary64 p.y q.y }

-- the edge's way from a to b, and its squared length
abbrev pub way_of : Edge → Point
way_of e = less_point e.b e.a

abbrev pub squares_of : Point → Float
squares_of w = add binary64 (mul binary64 w.x w.x) (mul binary64 w.y w.y)

-- t: the dot product over the squared length, clamped to 0..1
unfoldable pub param_of : Edge → Point → Float
param_of e p =
    let w = way_of e in
    let l2 = squares_of w in
    let dot = add binary64 (mul binary64 (sub binary64 p.x e.a.x) w.x) (mul binary64 (sub binary64 p.y e.a.y) w.y) in
    cond (lt zeroᶠ l2) (clamp_of (div binary64 dot l2) zeroᶠ one) zeroᶠ

-- the point at t between a and b, of one axis: t = 1 gives the far end itself
unfoldable pub along_of : Float → Float → Float → Float
along_of a b t = cond (eq t one) b (add binary64 a (mul binary64 t (sub binary64 b a)))

-- the same as it works out, at t = 1 too. Inner: no export's promise speaks of it
abbrev pub ahead_of : Float → Float → Float → Float
ahead_of a b t = add binary64 a (mul binary64 t (sub binary64 b a))

-- the nearest point
unfoldable pub foot_of : Edge → Point → Point
unfolding param_of along_of
foot_of e p = let t = param_of e p in record { x = along_of e.a.x e.b.x t; y = along_of e.a.y e.b.y t }

-- the line's own normal, to the right of its way
unfoldable pub normal_of : Edge → Point
normal_of e =
    let w = way_of e in
    let l = sqrt_of (squares_of w) in
    record { x = cond (lt zeroᶠ l) (div binary64 w.y l) one; y = cond (lt zeroᶠ l) (div binary64 (neg w.x) l) zeroᶠ }

unfoldable pub line_near : Edge → Point → Near
unfolding foot_of normal_of
line_near e p = let q = foot_of e p in record { d = hypot_of (sub binary64 p.x q.x) (sub binary64 p.y q.y); q = q; n = normal_of e }
