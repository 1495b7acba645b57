-- Finite values: their magnitudes, how large rounded results are, and that a value is its own rounded value. Assumes nothing.
use Rattle.std.proofs.Common.{◌≡◌, ℕ, ◌+◌, ◌*◌, ◌^◌, ◌<◌, ◌≤◌, Bool, true, false, cond, not, T, ℤ, pos, ◌*ℤ◌, nat_abs, sym, refl, ap, ◌∙◌, subst, le_trans, add-le-add, mul-le-mul, mul-one, arith, lit≤, pow_pos}
use lib.Ieee.{Float, nan, inf, fin, binary64, up, round, add, sub, mul, div, neg, lt, is_nan, fits}
use lib.Ieee.Fits.{down_pos, neg-fits, add-fits}
use lib.Ieee.Scale.{finite}
use Rattle.algebra.specs.Int.{one-*ℤ}
use Rattle.algebra.specs.Order.{ord, nat_abs_neg, nat_abs_add, nat_abs_mul, nat_abs_parts, nonneg_nat, pos_le, pos_lt, le_pos, pos_nonneg, <ℤ→≤ℤ, within_nat_abs, le_of_within}
use Rattle.algebra.proofs.SignedLaws.{nat_abs_signed}
use Rattle.number.specs.Exact.{Is, Sized, Held, zeroᶠ}
use Rattle.number.specs.Rounding.{Rounds, Rounded}
use Rattle.number.specs.Signs.{sign_bit, abs_of}
use Rattle.number.specs.Hypot.{short_end, Short}
use Rattle.number.proofs.Operations.{Equation, is→equation, equation→is, zero_is, neg_is, finite_is, is_held, rounds_same, add_rounds, mul_rounds, div_rounds}
use Rattle.number.proofs.Compare.{HasSign}
use Rattle.number.proofs.SignLaws.{abs_negates}
use Rattle.number.proofs.RoundingLaws.{round_sign, rounded_size}
use Rattle.number.proofs.ExactLaws.{add_result, mul_result}
use Rattle.number.proofs.Doubles.{round_fixed}
use Rattle.number.proofs.OrderLaws.{is_order, order_is, is_below, places, over}

-- ---- zero, the opposite and the magnitude

pub zero_held : Held zeroᶠ
unfolding fits
zero_held = record { fits = tt; finite = tt }

pub neg_held : {x : Float} → Held x → Held (neg x)
unfolding neg
neg_held {x = nan} h = absurd h.finite
neg_held {x = inf s} h = absurd h.finite
neg_held {x = fin s m e} h = record { fits = neg-fits binary64 (fin s m e) h.fits; finite = tt }

pub below_infinity : {x : Float} {k : ℕ} {z : ℤ} → Is k x z → lt x (inf false) ≡ true
unfolding lt
below_infinity {x = nan} h = absurd h.has
below_infinity {x = inf s} h = absurd h.has
below_infinity {x = fin s m e} h = refl

-- a float's magnitude is the whole number's
pub abs_is : {k : ℕ} {x : Float} {z : ℤ} → Is k x z → Is k (abs_of x) (pos (nat_abs z))
unfolding abs_of
abs_is {x = nan} h = absurd h.has
abs_is {x = inf s} h = absurd h.has
abs_is {x = fin s m e} h = record { sign = false; mag = h.mag; has = (refl, h.has.1); is = ap pos (sym (nat_abs_signed h.sign h.mag) ∙ ap nat_abs h.is) }

pub abs_held : {x : Float} → Held x → Held (abs_of x)
abs_held {x} h = subst Held (sym (abs_negates x)) (go (sign_bit x))
  where
    go : (b : Bool) → Held (cond b (neg x) x)
    go true = neg_held h
    go false = h

pub held_not_nan : {x : Float} → Held x → T (not (is_nan x))
unfolding is_nan
held_not_nan {x = nan} h = h.finite
held_not_nan {x = inf s} h = tt
held_not_nan {x = fin s m e} h = tt

-- |n / c| ≤ B: rounded, at most 2 B + 1
pub rounded_nat_abs : {R n : ℤ} {c : ℕ} (B : ℕ) → 0 < c → Rounded R n (pos c) → nat_abs n ≤ B * c → nat_abs R ≤ 2 * B + 1
rounded_nat_abs {c = c} B C r h = le_of_within (rounded_size {B = pos B} (pos_lt C) (pos_nonneg B) r (within_nat_abs {n = B * c} h))

-- a sum and a difference, rounded
pub add_grown : {m n : ℕ} {x y : Float} {z w : ℤ} → Sized 1074 m x z → Sized 1074 n y w → m + n ≤ 2 ^ 2096 → (R : ℤ) × Sized 1074 (2 * (m + n) + 1) (add binary64 x y) R
add_grown {m} {n} {z = z} {w = w} h g l =
    let both = add-le-add h.near g.near in
    let r = add_result h.is g.is (le_trans both l) in
    (r.R, record { is = r.is; near = rounded_nat_abs (m + n) (lit≤ tt) r.rnd (rw (mul-one (m + n)) (le_trans (nat_abs_add z w) both)) })

pub sub_grown : {m n : ℕ} {x y : Float} {z w : ℤ} → Sized 1074 m x z → Sized 1074 n y w → m + n ≤ 2 ^ 2096 → (R : ℤ) × Sized 1074 (2 * (m + n) + 1) (sub binary64 x y) R
unfolding sub
sub_grown {w = w} h g l = add_grown h (record { is = neg_is g.is; near = rw (nat_abs_neg w) g.near }) l

-- ---- rounding

-- a value is its own rounded value
pub is_rounds : {k : ℕ} {x : Float} {z : ℤ} → Is k x z → T (fits binary64 x) → Rounds x z (2 ^ k)
is_rounds {k} {x} {z} h F = at x F (is→equation h)
  where
    at : (x : Float) → T (fits binary64 x) → Equation k x z → Rounds x z (2 ^ k)
    at nan F p = elim p [ ]
    at (inf _) F p = elim p [ ]
    at (fin s m e) F p = rounds_same (record { sign = s; mag = m * up e; den_pos = down_pos e; same = sym (round_fixed s m e F); val = refl }) (pow_pos k) p

pub rounds_not_nan : {x : Float} {n : ℤ} {c : ℕ} → Rounds x n c → T (not (is_nan x))
unfolding is_nan
rounds_not_nan {c = c} h = subst (λ (v : Float). T (not (is_nan v))) (sym h.same) (signed_not_nan (round binary64 h.sign h.mag c) h.sign (round_sign binary64 h.sign h.mag c))
  where
    signed_not_nan : (x : Float) (s : Bool) → HasSign x s → T (not (is_nan x))
    signed_not_nan nan s p = p
    signed_not_nan (inf t) s p = tt
    signed_not_nan (fin t m e) s p = tt

-- ---- what is at most 2 ^ 23, and that products of such, their sums, and quotients of finite values are numbers

-- x is at most 2 ^ 1097 units
pub short_is : {x : Float} → Short x → (z : ℤ) × Sized 1074 (2 ^ 1097) x z
short_is h = let z = finite_is h.held in (z.0, record { is = z.1; near = le_pos (is_order (abs_is z.1) (equation→is short_end refl) h.size) })

pub is_short : {x : Float} {z : ℤ} → Sized 1074 (2 ^ 1097) x z → T (fits binary64 x) → Short x
is_short h F = record { held = is_held h.is F; size = order_is (abs_is h.is) (equation→is {k = 1074} short_end {z = pos (2 ^ 1097)} refl) (pos_le h.near) }

-- a product of two, rounded, is at most 2 ^ 50
product_size : {R : ℤ} (n m : ℤ) → Rounded R (n *ℤ m) (pos (2 ^ 1074)) → nat_abs n ≤ 2 ^ 1097 → nat_abs m ≤ 2 ^ 1097 → nat_abs R ≤ 2 ^ 1124
product_size n m r h g = le_trans (rounded_nat_abs (2 ^ 1120) (pow_pos 1074) r (rw (nat_abs_mul n m) (mul-le-mul h g))) (lit≤ tt)

pub products_held : {a b c d : Float} → Short a → Short b → Short c → Short d → Held (add binary64 (mul binary64 a b) (mul binary64 c d))
products_held {a} {b} {c} {d} ha hb hc hd =
    let x = short_is ha in
    let y = short_is hb in
    let z = short_is hc in
    let w = short_is hd in
    let P = mul_result x.1.is y.1.is (le_trans (mul-le-mul x.1.near y.1.near) (lit≤ tt)) in
    let Q = mul_result z.1.is w.1.is (le_trans (mul-le-mul z.1.near w.1.near) (lit≤ tt)) in
    let S = add_result P.is Q.is (le_trans (add-le-add (product_size x.0 y.0 P.rnd x.1.near y.1.near) (product_size z.0 w.0 Q.rnd z.1.near w.1.near)) (lit≤ tt)) in
    is_held S.is (add-fits binary64 (mul binary64 a b) (mul binary64 c d))

-- a quotient by a divisor above zero is that of the whole numbers, rounded
pub quotient_rounds : {x y : Float} (h : Held x) (g : Held y) → T (lt zeroᶠ y) → Rounds (div binary64 x y) (finite_is h).0 (nat_abs (finite_is g).0)
quotient_rounds {x} {y} h g m =
    let z = finite_is g in
    let b = nat_abs z.0 in
    let W = is_below (zero_is 1074) z.1 m in
    let divisor : Is 1074 y (pos b) = subst (Is 1074 y) (sym (nonneg_nat (<ℤ→≤ℤ W))) z.1 in
    subst (λ (n : ℤ). Rounds (div binary64 x y) n b) (one-*ℤ (finite_is h).0) (div_rounds false (finite_is h).1 divisor (omega (ord, nat_abs_parts z.0)))

pub quotient_not_nan : {x y : Float} → Held x → Held y → T (lt zeroᶠ y) → T (not (is_nan (div binary64 x y)))
quotient_not_nan h g m = rounds_not_nan (quotient_rounds h g m)

-- ---- results that are no NaN, whether or not the arguments are doubles
-- of finite floats
finite_sum : (s t : Bool) (m n : ℕ) (d e : ℤ) → T (not (is_nan (add binary64 (fin s m d) (fin t n e))))
finite_sum s t m n d e = rounds_not_nan (add_rounds (over s m d {k = places d + places e} (omega arith)).1 (over t n e {k = places d + places e} (omega arith)).1)

-- the sum and the difference of a finite float and one that is no NaN
pub add_not_nan : (x y : Float) → T (finite x) → T (not (is_nan y)) → T (not (is_nan (add binary64 x y)))
unfolding add is_nan
add_not_nan nan y f n = absurd f
add_not_nan (inf s) y f n = absurd f
add_not_nan (fin s m d) nan f n = absurd n
add_not_nan (fin s m d) (inf t) f n = tt
add_not_nan (fin s m d) (fin t n e) f _ = finite_sum s t m n d e

pub sub_not_nan : (x y : Float) → T (finite x) → T (not (is_nan y)) → T (not (is_nan (sub binary64 x y)))
unfolding sub is_nan neg
sub_not_nan x y f n = add_not_nan x (neg y) f (turned y n)
  where
    turned : (y : Float) → T (not (is_nan y)) → T (not (is_nan (neg y)))
    turned nan n = absurd n
    turned (inf s) n = tt
    turned (fin s m e) n = tt

-- the product of two finite floats
pub mul_not_nan : (x y : Float) → T (finite x) → T (finite y) → T (not (is_nan (mul binary64 x y)))
mul_not_nan nan y f g = absurd f
mul_not_nan (inf s) y f g = absurd f
mul_not_nan (fin s m d) nan f g = absurd g
mul_not_nan (fin s m d) (inf t) f g = absurd g
mul_not_nan (fin s m d) (fin t n e) f g = rounds_not_nan (mul_rounds (over s m d {k = places d} (omega arith)).1 (over t n e {k = places e} (omega arith)).1)

pub abs_finite : (x : Float) → T (finite x) → T (finite (abs_of x))
unfolding abs_of
abs_finite nan f = absurd f
abs_finite (inf s) f = absurd f
abs_finite (fin s m e) f = tt
