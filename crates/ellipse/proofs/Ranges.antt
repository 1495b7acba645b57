-- Floats from one number to another: the range of each operation's result, from the ranges of its parts. Assumes nothing.
-- Every law asks for tests of the ends. Where the ends are numbers, the tests compute, and `tt` passes them.
use mathlib.Core.Path.{refl, sym, subst}
use mathlib.Core.Logic.{⊎_elim}
use mathlib.Core.Bool.{Bool, true, false, ◌&&◌, ◌||◌, cond}
use Prim.Native.Nat.{ℕ, suc}
use lib.Dec.{T}
use lib.IntN.{pos}
use lib.Ieee.{Float, fin, binary64, unlike, minus, add, sub, mul, div, neg, le, lt, eq, fits, is_nan}
use lib.Ieee.Bits.{is_true}
use lib.Ieee.Fits.{and_l, and_r, add-fits, sub-fits, mul-fits, div-fits}
use lib.Ieee.Scale.{finite}
use Rattle.algebra.specs.Order.{◌≦◌, ord, ≤ℤ-of-eq}
use Rattle.number.specs.Exact.{Is, Held, zeroᶠ, one}
use Rattle.number.specs.Root.{sqrt_of}
use Rattle.number.specs.Hypot.{hypot_of}
use Rattle.number.specs.Signs.{sign_bit, abs_of, copysign_of, max_of}
use Rattle.number.proofs.Basics.{or_split}
use Rattle.number.proofs.Operations.{zero_is, finite_is, equation→is}
use Rattle.number.proofs.Compare.{eq→, le_neg}
use Rattle.number.proofs.SignLaws.{copysign_negates, abs_negates}
use Rattle.number.proofs.OrderLaws.{is_order, order_is, is_below, le_self, below_le, le_through, below_through, finite_between}
use Rattle.number.proofs.MagnitudeOrder.{le_abs, abs_nonneg, max_one_of, le_max_right}
use Rattle.number.proofs.Values.{zero_held, neg_held, abs_held, held_not_nan}
use Rattle.number.proofs.Monotone.{add_mono, sub_mono, mul_mono_left, mul_mono_both, div_mono_both}
use Rattle.number.proofs.CloseRoot.{sqrt_fits}
use Rattle.number.proofs.SqrtLaws.{sqrt_mono_all, sqrt_nonneg}
use Rattle.number.proofs.HypotLaws.{hypot_fits, hypot_nonneg}
use Rattle.number.proofs.HypotRange.{power, Doubled, hypot_at_most, sqrt_of_one}

-- 2 ^ -k
abbrev pub part : ℕ → Float
part k = fin false 1 (minus 0 k)

-- x is a number of `f64` from lo to hi, which are such numbers too
pub record Ranged (lo hi x : Float) : Type 0 where
  pub from : Held lo
  pub to : Held hi
  pub held : Held x
  pub low : T (le lo x)
  pub high : T (le x hi)

-- x is at most 2 ^ k either way
abbrev pub Bounded : ℕ → Float → Type 0
Bounded k x = Ranged (neg (power k)) (power k) x

-- ---- from lo to hi, both finite, is from L to H
abbrev pub held_number : Float → Bool
held_number x = fits binary64 x && finite x

abbrev pub inside_range : Float → Float → Float → Float → Bool
inside_range L H lo hi = (held_number L && held_number H) && ((finite lo && finite hi) && (le L lo && le hi H))

held_of : (x : Float) → T (held_number x) → Held x
held_of x t = record { fits = and_l (fits binary64 x) (finite x) t; finite = and_r (fits binary64 x) (finite x) t }

ranged_by : {L H : Float} (lo hi x : Float) → T (fits binary64 lo) → T (fits binary64 hi) → T (fits binary64 x) → T (le lo x) → T (le x hi) → T (inside_range L H lo hi) → Ranged L H x
ranged_by {L} {H} lo hi x lo-fits hi-fits x_Fits low high t =
    let ends = and_l (held_number L && held_number H) ((finite lo && finite hi) && (le L lo && le hi H)) t in
    let rest = and_r (held_number L && held_number H) ((finite lo && finite hi) && (le L lo && le hi H)) t in
    let both = and_l (finite lo && finite hi) (le L lo && le hi H) rest in
    let order = and_r (finite lo && finite hi) (le L lo && le hi H) rest in
    let F = and_l (finite lo) (finite hi) both in
    let G = and_r (finite lo) (finite hi) both in
    let A = held_of L (and_l (held_number L) (held_number H) ends) in
    let B = held_of H (and_r (held_number L) (held_number H) ends) in
    let X : Held x = record { fits = x_Fits; finite = finite_between lo x hi F G low high } in
    record {
      from = A;
      to = B;
      held = X;
      low = le_through L lo x (and_l (le L lo) (le hi H) order) low;
      high = le_through x hi H high (and_r (le L lo) (le hi H) order);
    }

pub wider : {L H l h x : Float} → Ranged l h x → T (inside_range L H l h) → Ranged L H x
wider {l = l} {h = h} {x = x} X = ranged_by l h x X.from.fits X.to.fits X.held.fits X.low X.high

-- ---- ranges to begin with: of what was tested, of one number, and of what equals it
pub tested_range : {lo hi : Float} (x : Float) → T (fits binary64 x) → T (le lo x && le x hi) → T (held_number lo && held_number hi) → Ranged lo hi x
tested_range {lo} {hi} x F t u =
    let A = held_of lo (and_l (held_number lo) (held_number hi) u) in
    let B = held_of hi (and_r (held_number lo) (held_number hi) u) in
    let l = and_l (le lo x) (le x hi) t in
    let h = and_r (le lo x) (le x hi) t in
    record { from = A; to = B; held = record { fits = F; finite = finite_between lo x hi A.finite B.finite l h }; low = l; high = h }

pub number_range : (x : Float) → T (held_number x) → Ranged x x x
number_range x t =
    let X = held_of x t in
    let l = le_self x (held_not_nan X) in
    record { from = X; to = X; held = X; low = l; high = l }

pub equal_range : {x c : Float} → Held x → Held c → T (eq x c) → Ranged c c x
equal_range X C t =
    let e = eq→ (finite_is X).1 (finite_is C).1 t in
    record { from = C; to = C; held = X; low = order_is (finite_is C).1 (finite_is X).1 (≤ℤ-of-eq (sym e)); high = order_is (finite_is X).1 (finite_is C).1 (≤ℤ-of-eq e) }

-- ---- sums and differences
module _ {L H l h x k m y : Float} (X : Ranged l h x) (Y : Ranged k m y) where
  pub sum_range : T (inside_range L H (add binary64 l k) (add binary64 h m)) → Ranged L H (add binary64 x y)
  sum_range =
      ranged_by (add binary64 l k) (add binary64 h m) (add binary64 x y) (add-fits binary64 l k) (add-fits binary64 h m) (add-fits binary64 x y)
      (add_mono X.from X.held Y.from Y.held X.low Y.low) (add_mono X.held X.to Y.held Y.to X.high Y.high)

  pub difference_range : T (inside_range L H (sub binary64 l m) (sub binary64 h k)) → Ranged L H (sub binary64 x y)
  difference_range =
      ranged_by (sub binary64 l m) (sub binary64 h k) (sub binary64 x y) (sub-fits binary64 l m) (sub-fits binary64 h k) (sub-fits binary64 x y)
      (sub_mono X.from X.held Y.to Y.held X.low Y.high) (sub_mono X.held X.to Y.held Y.from X.high Y.low)

-- ---- products, quotients and roots of what is not negative
from_zero : {l h x : Float} → Ranged l h x → T (le zeroᶠ l) → T (le zeroᶠ x)
from_zero {l} {x = x} X a = le_through zeroᶠ l x a X.low

to_zero : {l h x : Float} → Ranged l h x → T (le zeroᶠ l) → T (le zeroᶠ h)
to_zero {h = h} {x = x} X a = le_through zeroᶠ x h (from_zero X a) X.high

pub product_range : {L H l h x k m y : Float} → Ranged l h x → Ranged k m y → T (le zeroᶠ l) → T (le zeroᶠ k) → T (inside_range L H (mul binary64 l k) (mul binary64 h m)) → Ranged L H (mul binary64 x y)
product_range {l = l} {h = h} {x = x} {k = k} {m = m} {y = y} X Y a b =
    ranged_by (mul binary64 l k) (mul binary64 h m) (mul binary64 x y) (mul-fits binary64 l k) (mul-fits binary64 h m) (mul-fits binary64 x y)
    (mul_mono_both X.from Y.from X.held Y.held a b X.low Y.low) (mul_mono_both X.held Y.held X.to Y.to (from_zero X a) (from_zero Y b) X.high Y.high)

-- c times a number of either sign
pub multiple_range : {L H l h x : Float} (c : Float) → Held c → T (le zeroᶠ c) → Ranged l h x → T (inside_range L H (mul binary64 c l) (mul binary64 c h)) → Ranged L H (mul binary64 c x)
multiple_range {l = l} {h = h} {x = x} c C a X =
    ranged_by (mul binary64 c l) (mul binary64 c h) (mul binary64 c x) (mul-fits binary64 c l) (mul-fits binary64 c h) (mul-fits binary64 c x)
    (mul_mono_left C X.from X.held a X.low) (mul_mono_left C X.held X.to a X.high)

pub quotient_range : {L H l h x k m y : Float} → Ranged l h x → Ranged k m y → T (le zeroᶠ l) → T (lt zeroᶠ k) → T (inside_range L H (div binary64 l m) (div binary64 h k)) → Ranged L H (div binary64 x y)
quotient_range {l = l} {h = h} {x = x} {k = k} {m = m} {y = y} X Y a b =
    ranged_by (div binary64 l m) (div binary64 h k) (div binary64 x y) (div-fits binary64 l m) (div-fits binary64 h k) (div-fits binary64 x y)
    (div_mono_both X.from Y.to X.held Y.held (from_zero X a) (below_through zeroᶠ k y b Y.low) X.low Y.high)
    (div_mono_both X.held Y.held X.to Y.from (to_zero X a) b X.high Y.low)

-- the root of a number from 0 to 1 is one
pub root_range : {x : Float} → Ranged zeroᶠ one x → Ranged zeroᶠ one (sqrt_of x)
unfolding le
root_range {x} X =
    let low = sqrt_nonneg x X.low in
    let high = subst (λ (v : Float). T (le (sqrt_of x) v)) sqrt_of_one (sqrt_mono_all x one X.low tt X.high) in
    record {
      from = X.from;
      to = X.to;
      held = record { fits = sqrt_fits x X.held.fits; finite = finite_between zeroᶠ (sqrt_of x) one tt tt low high };
      low = low;
      high = high;
    }

-- ---- signs
pub copysign_range : {L H l h x : Float} (y : Float) → Ranged l h x → T (inside_range L H l h) → T (inside_range L H (neg h) (neg l)) → Ranged L H (copysign_of x y)
copysign_range {L} {H} {l} {h} {x} y X s t = subst (Ranged L H) (sym (copysign_negates x y)) (go (unlike (sign_bit x) (sign_bit y)))
  where
    go : (b : Bool) → Ranged L H (cond b (neg x) x)
    go true = wider (record { from = neg_held X.to; to = neg_held X.from; held = neg_held X.held; low = le_neg x h X.high; high = le_neg l x X.low }) t
    go false = wider X s

-- the magnitude of a number from l to h is from L to h
abbrev pub spans : Float → Float → Float → Bool
spans L l h = held_number L && (le (neg l) h && (le L zeroᶠ || le L l))

pub abs_range : {L l h x : Float} → Ranged l h x → T (spans L l h) → Ranged L h (abs_of x)
abs_range {L} {l} {h} {x} X t =
    let A = held_of L (and_l (held_number L) (le (neg l) h && (le L zeroᶠ || le L l)) t) in
    let u = and_r (held_number L) (le (neg l) h && (le L zeroᶠ || le L l)) t in
    let N = held_not_nan X.held in
    record {
      from = A;
      to = X.to;
      held = abs_held X.held;
      low = ⊎_elim (λ m. le_through L zeroᶠ (abs_of x) m (abs_nonneg x N)) (λ m. le_through L x (abs_of x) (le_through L l x m X.low) (le_abs x N))
          (or_split (le L zeroᶠ) (le L l) (and_r (le (neg l) h) (le L zeroᶠ || le L l) u));
      high = subst (λ (v : Float). T (le v h)) (sym (abs_negates x)) (high (sign_bit x) (and_l (le (neg l) h) (le L zeroᶠ || le L l) u));
    }
  where
    high : (b : Bool) → T (le (neg l) h) → T (le (cond b (neg x) x) h)
    high true m = le_through (neg x) (neg l) h (le_neg l x X.low) m
    high false m = X.high

-- ---- hypot, where neither magnitude is above 2 ^ n
pub hypot_range : {l h x k m y : Float} (n : ℕ) → Doubled n → T (inside_range zeroᶠ (power (suc n)) zeroᶠ (power (suc n))) → Ranged l h x → Ranged k m y → T (spans zeroᶠ l h) → T (spans zeroᶠ k m) → T (le h (power n)) → T (le m (power n))
    → Ranged zeroᶠ (power (suc n)) (hypot_of x y)
hypot_range {h = h} {x = x} {m = m} {y = y} n D t X Y s u H M =
    let A : Ranged zeroᶠ h (abs_of x) = abs_range X s in
    let B : Ranged zeroᶠ m (abs_of y) = abs_range Y u in
    let low = hypot_nonneg x y (held_not_nan X.held) (held_not_nan Y.held) in
    let high = hypot_at_most n x y D (le_through (abs_of x) h (power n) A.high H) (le_through (abs_of y) m (power n) B.high M) in
    let ends = and_l (held_number zeroᶠ && held_number (power (suc n))) _ t in
    let from = held_of zeroᶠ (and_l (held_number zeroᶠ) (held_number (power (suc n))) ends) in
    let to = held_of (power (suc n)) (and_r (held_number zeroᶠ) (held_number (power (suc n))) ends) in
    record {
      from = from;
      to = to;
      held = record { fits = hypot_fits x y; finite = finite_between zeroᶠ (hypot_of x y) (power (suc n)) from.finite to.finite low high };
      low = low;
      high = high;
    }

-- ---- the greater of x and 0
pub max_zero_range : {H l h x : Float} → Ranged l h x → T (inside_range zeroᶠ H zeroᶠ h) → T (inside_range zeroᶠ H zeroᶠ zeroᶠ) → Ranged zeroᶠ H (max_of x zeroᶠ)
unfolding le
max_zero_range {H} {x = x} X t u =
    let own : T (le zeroᶠ x) → Ranged zeroᶠ H x = λ l. wider (record { from = zero_held; to = X.to; held = X.held; low = l; high = X.high }) t in
    let nought : Ranged zeroᶠ H zeroᶠ = wider (record { from = zero_held; to = zero_held; held = zero_held; low = tt; high = tt }) u in
    max_one_of (λ v. T (le zeroᶠ v) → Ranged zeroᶠ H v) {x = x} {y = zeroᶠ} own (λ _. nought) (le_max_right x zeroᶠ (unfold is_nan in tt))

-- ---- what is above a number of a range
pub above_range : {l h x k m y : Float} → Ranged l h x → Ranged k m y → T (lt x y) → Ranged l m y
above_range {l} {x = x} {y = y} X Y t = record { from = X.from; to = Y.to; held = Y.held; low = le_through l x y X.low (below_le x y (is_true (lt x y) t)); high = Y.high }

-- above zero it is 2 ^ -1074 at least
pub above_zero_range : {h x k m y : Float} → Ranged zeroᶠ h x → Ranged k m y → T (lt x y) → Ranged (part 1074) m y
unfolding fits
above_zero_range X Y t =
    let x = finite_is X.held in
    let y = finite_is Y.held in
    let Q : pos 1 ≦ y.0 = omega (ord, is_order (zero_is 1074) x.1 X.low, is_below x.1 y.1 t) in
    record { from = record { fits = tt; finite = tt }; to = Y.to; held = Y.held; low = order_is one_unit y.1 Q; high = Y.high }
  where
    one_unit : Is 1074 (part 1074) (pos 1)
    one_unit = equation→is (part 1074) refl
