-- The nearest point in the first quadrant, where a ≥ b: every step stays in a range, so no divisor is zero and nothing overflows. Assumes nothing.
use mathlib.Core.Logic.{◌⊎◌, inl, inr}
use mathlib.Core.Bool.{Bool, true, false, cond, ◌||◌}
use Prim.Native.Nat.{ℕ, zero, suc, ◌-◌, ◌^◌}
use lib.Dec.{T}
use lib.Ieee.{Float, fin, minus, binary64, add, sub, mul, div, neg, le, lt, eq, fits}
use Rattle.number.specs.Exact.{zeroᶠ, one}
use Rattle.number.specs.Root.{sqrt_of}
use Rattle.number.specs.Hypot.{hypot_of, square_least, square_end}
use Rattle.number.specs.Signs.{abs_of, max_of}
use Rattle.number.proofs.OrderLaws.{below_not_le, below_through, through_below, le_through}
use Rattle.number.proofs.Values.{held_not_nan}
use Rattle.number.proofs.HypotRange.{power, doubled_71, hypot_at_least}
use Rattle.number.proofs.Monotone.{one_le_quotient}
use Rattle.boundary.specs.declared.Point.{Point}
use Rattle.distance.specs.declared.Curve.{Curve}
use Rattle.boundary.specs.Line.{half, middle}
use Rattle.distance.specs.Ellipse.{square, excess, curve_at, halve, halved_of, upper_end, curve_of, root_in, foot_at, off_axes, on_axis, quadrant_nearest}
use Rattle.ellipse.proofs.Ranges.{Ranged, Bounded, part, number_range, wider, sum_range, difference_range, product_range, multiple_range, quotient_range, root_range, abs_range, hypot_range, max_zero_range, above_range, above_zero_range}

-- a semi-axis
abbrev pub AxisRange : Float → Type 0
AxisRange a = Ranged (part 10) (power 10) a

-- a coordinate of the query that is not zero, and one over a semi-axis
abbrev pub OffAxis : Float → Type 0
OffAxis y = Ranged (part 20) (power 21) y

abbrev OverAxis : Float → Type 0
OverAxis z = Ranged (part 30) (power 31) z

-- both coordinates of the answer
pub record FirstQuadrant (q : Point) : Type 0 where
  pub x : Ranged zeroᶠ (power 92) q.x
  pub y : Ranged zeroᶠ (power 92) q.y

-- ---- the root by halving: z1 is 2 ^ -30 at least, so both ends are -1 + 2 ^ -30 at least, and every middle is
abbrev least : Float
least = fin true (2 ^ 30 - 1) (minus 0 30)

abbrev RootRange : Float → Type 0
RootRange s = Ranged least (power 72) s

middle_range : {s0 s1 : Float} → RootRange s0 → RootRange s1 → RootRange (middle s0 s1)
unfolding add mul le fits
middle_range {s0} {s1} S0 S1 =
    let twice : Ranged (fin true (2 ^ 30 - 1) (minus 0 29)) (power 73) (add binary64 s0 s1) = sum_range S0 S1 tt in
    multiple_range half (record { fits = tt; finite = tt }) tt twice tt

-- whatever G is there
halve_range : (c : Curve) (n : ℕ) {s s0 s1 : Float} → RootRange s → RootRange s0 → RootRange s1 → RootRange (halve c n s s0 s1)
unfolding halve
halve_range c zero S S0 S1 = S
halve_range c (suc n) {s} {s0} {s1} S S0 S1 =
    let m = middle s0 s1 in
    let M = middle_range S0 S1 in
    choose (eq m s0 || eq m s1) (lt zeroᶠ (curve_at c m)) (lt (curve_at c m) zeroᶠ) M (halve_range c n M M S1) (halve_range c n M S0 M)
  where
    choose : (p q r : Bool) {m u w : Float} → RootRange m → RootRange u → RootRange w → RootRange (cond p m (cond q u (cond r w m)))
    choose true q r M U W = M
    choose false true r M U W = U
    choose false false true M U W = W
    choose false false false M U W = M

upper_end_range : (g : Float) {n0 z1 : Float} → Ranged (part 30) (power 71) n0 → OverAxis z1 → RootRange (upper_end g n0 z1)
unfolding upper_end sub neg le fits
upper_end_range g {n0} {z1} N Z = go (lt g zeroᶠ)
  where
    -- z1's own magnitude is 2 ^ -30 at least, and the length is no less
    side : Ranged (part 30) (power 31) (abs_of z1)
    side = abs_range Z tt

    far : Ranged (part 30) (power 72) (hypot_of n0 z1)
    far =
        let whole = hypot_range 71 doubled_71 tt N Z tt tt tt tt in
        let least = hypot_at_least n0 z1 (held_not_nan N.held) Z.held.fits (le_through square_least (part 30) (abs_of z1) tt side.low) (through_below (abs_of z1) (power 31) square_end side.high (unfold lt in tt)) in
        record { from = side.from; to = whole.to; held = whole.held; low = le_through (part 30) (abs_of z1) (hypot_of n0 z1) side.low least; high = whole.high }

    go : (b : Bool) → RootRange (cond b zeroᶠ (sub binary64 (hypot_of n0 z1) one))
    go true = wider (number_range zeroᶠ tt) tt
    go false = difference_range far (number_range one tt) tt

root_in_range : (c : Curve) (g : Float) → Ranged (part 30) (power 71) c.n0 → OverAxis c.z1 → RootRange (root_in c g)
unfolding root_in halved_of sub le fits
root_in_range c g N Z = let s0 : RootRange (sub binary64 c.z1 one) = difference_range Z (number_range one tt) tt in halve_range c 1100 s0 s0 (upper_end_range g N Z)

-- ---- off both axes
-- r0 = (a / b) ^ 2 is 1 at least
ratio_range : {a b : Float} → AxisRange a → AxisRange b → T (le b a) → Ranged one (power 40) (square (div binary64 a b))
unfolding div mul le fits
ratio_range {a} {b} A B l =
    let r : Ranged (part 20) (power 20) (div binary64 a b) = quotient_range A B tt tt tt in
    let low = one_le_quotient A.held B.held (below_through zeroᶠ (part 10) b tt B.low) l in
    let r1 : Ranged one (power 20) (div binary64 a b) = record { from = record { fits = tt; finite = tt }; to = r.to; held = r.held; low = low; high = r.high } in
    product_range r1 r1 tt tt tt

-- so s + r0 and s + 1 are 2 ^ -30 at least
foot_range : {r0 y0 y1 s : Float} → Ranged one (power 40) r0 → OffAxis y0 → OffAxis y1 → RootRange s → FirstQuadrant (foot_at r0 y0 y1 s)
unfolding foot_at add mul div le fits
foot_range {r0} {y0} {y1} {s} R Y0 Y1 S =
    let n : Ranged (part 20) (power 61) (mul binary64 r0 y0) = product_range R Y0 tt tt tt in
    let dx : Ranged (part 30) (power 73) (add binary64 s r0) = sum_range S R tt in
    let dy : Ranged (part 30) (power 73) (add binary64 s one) = sum_range S (number_range one tt) tt in
    record { x = quotient_range n dx tt tt tt; y = quotient_range Y1 dy tt tt tt }

off_axes_range : {a b y0 y1 : Float} → AxisRange a → AxisRange b → T (le b a) → OffAxis y0 → OffAxis y1 → FirstQuadrant (off_axes a b y0 y1)
unfolding off_axes mul div le fits
off_axes_range {a} {b} {y0} {y1} A B l Y0 Y1 = go (eq g zeroᶠ)
  where
    z0 : Float
    z0 = div binary64 y0 a

    z1 : Float
    z1 = div binary64 y1 b

    g : Float
    g = excess z0 z1

    R : Ranged one (power 40) (square (div binary64 a b))
    R = ratio_range A B l

    Z0 : OverAxis z0
    Z0 = quotient_range Y0 A tt tt tt

    Z1 : OverAxis z1
    Z1 = quotient_range Y1 B tt tt tt

    go : (c : Bool) → FirstQuadrant (cond c (record { x = y0; y = y1 }) (foot_at (square (div binary64 a b)) y0 y1 (root_in (curve_of a b z0 z1) g)))
    go true = record { x = wider Y0 tt; y = wider Y1 tt }
    go false = foot_range R Y0 Y1 (root_in_range (curve_of a b z0 z1) g (product_range R Z0 tt tt tt) Z1)

-- ---- on the longer axis
-- a coordinate is zero, or off the axis
abbrev pub OnOrOffAxis : Float → Type 0
OnOrOffAxis y = Ranged zeroᶠ zeroᶠ y ⊎ OffAxis y

-- the divisor a² - b² is above a y0: where that is 0 so is the dividend, and otherwise it is 2 ^ -30 at least
axis_x_range : {a b y0 : Float} → AxisRange a → AxisRange b → OnOrOffAxis y0 → T (lt (mul binary64 a y0) (sub binary64 (square a) (square b))) → Ranged zeroᶠ (power 71) (div binary64 (mul binary64 (square a) y0) (sub binary64 (square a) (square b)))
unfolding sub mul div le fits
axis_x_range {a} {b} {y0} A B Y t = go Y
  where
    A2 : Ranged (part 20) (power 20) (square a)
    A2 = product_range A A tt tt tt

    B2 : Ranged (part 20) (power 20) (square b)
    B2 = product_range B B tt tt tt

    D : Bounded 20 (sub binary64 (square a) (square b))
    D = difference_range A2 B2 tt

    go : OnOrOffAxis y0 → Ranged zeroᶠ (power 71) (div binary64 (mul binary64 (square a) y0) (sub binary64 (square a) (square b)))
    go (inl Y) =
        let m : Ranged zeroᶠ zeroᶠ (mul binary64 a y0) = product_range A Y tt tt tt in
        let n : Ranged zeroᶠ zeroᶠ (mul binary64 (square a) y0) = product_range A2 Y tt tt tt in
        quotient_range n (above_zero_range m D t) tt tt tt
    go (inr Y) =
        let m : Ranged (part 30) (power 31) (mul binary64 a y0) = product_range A Y tt tt tt in
        let n : Ranged (part 40) (power 41) (mul binary64 (square a) y0) = product_range A2 Y tt tt tt in
        quotient_range n (above_range m D t) tt tt tt

on_axis_range : {a b y0 : Float} → AxisRange a → AxisRange b → OnOrOffAxis y0 → FirstQuadrant (on_axis a b y0)
unfolding on_axis sub mul div le fits
on_axis_range {a} {b} {y0} A B Y = go (lt (mul binary64 a y0) denom) (λ t. axis_x_range A B Y t)
  where
    denom : Float
    denom = sub binary64 (square a) (square b)

    x : Float
    x = div binary64 (mul binary64 (square a) y0) denom

    height : Float
    height = sqrt_of (max_of (sub binary64 one (square (div binary64 x a))) zeroᶠ)

    height_range : Ranged zeroᶠ (power 71) x → Ranged zeroᶠ one height
    height_range X =
        let xa : Ranged zeroᶠ (power 81) (div binary64 x a) = quotient_range X A tt tt tt in
        let xa2 : Ranged zeroᶠ (power 162) (square (div binary64 x a)) = product_range xa xa tt tt tt in
        let rest : Ranged (neg (power 162)) one (sub binary64 one (square (div binary64 x a))) = difference_range (number_range one tt) xa2 tt in
        let most : Ranged zeroᶠ one (max_of (sub binary64 one (square (div binary64 x a))) zeroᶠ) = max_zero_range rest tt tt in
        root_range most

    go : (c : Bool) → (T c → Ranged zeroᶠ (power 71) x) → FirstQuadrant (cond c (record { x = x; y = mul binary64 b height }) (record { x = a; y = zeroᶠ }))
    go true f = let X = f tt in record { x = wider X tt; y = product_range B (height_range X) tt tt tt }
    go false f = record { x = wider A tt; y = wider (number_range zeroᶠ tt) tt }

-- ---- the quadrant
pub quadrant_range : {a b y0 y1 : Float} → AxisRange a → AxisRange b → T (le b a) → OnOrOffAxis y0 → OnOrOffAxis y1 → FirstQuadrant (quadrant_nearest a b y0 y1)
unfolding quadrant_nearest le fits
quadrant_range {a} {b} {y0} {y1} A B l Y0 Y1 = go (lt zeroᶠ y1) (off Y1) (lt zeroᶠ y0) (off Y0)
  where
    off : {y : Float} → OnOrOffAxis y → T (lt zeroᶠ y) → OffAxis y
    off {y} (inl Y) t = absurd (below_not_le zeroᶠ y t Y.high)
    off (inr Y) t = Y

    go : (c : Bool) → (T c → OffAxis y1) → (d : Bool) → (T d → OffAxis y0) → FirstQuadrant (cond c (cond d (off_axes a b y0 y1) (record { x = zeroᶠ; y = b })) (on_axis a b y0))
    go true f true g = off_axes_range A B l (g tt) (f tt)
    go true f false g = record { x = wider (number_range zeroᶠ tt) tt; y = wider B tt }
    go false f d g = on_axis_range A B Y0
