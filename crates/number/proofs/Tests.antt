-- What a test of a float says of it. Assumes nothing.
use Rattle.std.proofs.Common.{◌≡◌, ℕ, zero, suc, ◌-◌, ◌*◌, ◌%◌, ◌^◌, ◌≤◌, Bool, true, false, not, T, ltb, ℤ, sym, refl, ap, ◌∙◌, subst, le_trans, zero-lt-suc, mul-pos, arith, ltb-false, lt-ltb, eq-eqb, ne_eqb}
use native.Mathlib.Nat.{mod-le}
use lib.Arith.{le→nltb}
use lib.Ieee.{Float, nan, inf, fin, binary64, up, down, fits, to_bits, is_nan, nan_bits, le, lt, eq}
use lib.Ieee.Fits.{up_pos}
use lib.Ieee.Bits.{of_bits-to_bits, nan_bits_is, nan_bits_above}
use lib.Ieee.Positive.{above}
use Rattle.number.specs.Exact.{zeroᶠ}

-- ---- a NaN passes no test
pub le_not_nan : (a x : Float) → le a x ≡ true → T (not (is_nan x))
unfolding le is_nan
le_not_nan nan nan h = subst T (sym h) tt
le_not_nan (inf s) nan h = subst T (sym h) tt
le_not_nan (fin s m e) nan h = subst T (sym h) tt
le_not_nan a (inf t) h = tt
le_not_nan a (fin t n d) h = tt

pub lt_not_nan : (a x : Float) → lt a x ≡ true → T (not (is_nan x))
unfolding lt is_nan
lt_not_nan nan nan h = subst T (sym h) tt
lt_not_nan (inf s) nan h = subst T (sym h) tt
lt_not_nan (fin s m e) nan h = subst T (sym h) tt
lt_not_nan a (inf t) h = tt
lt_not_nan a (fin t n d) h = tt

-- a pattern up to that of the infinity is no NaN's
pub bits_not_nan : (n : ℕ) → n ≤ 2047 * 2 ^ 52 → T (not (nan_bits binary64 n))
bits_not_nan n h = subst (λ (b : Bool). T (not b)) (sym (nan_bits_above binary64 n)) (le→nltb (2047 * 2 ^ 52) (n % 2 ^ 63) (le_trans (mod-le n (2 ^ 63)) h))

-- nor is one whose last 27 bits were taken from a number's
pub trimmed_not_nan : (x : Float) → T (fits binary64 x) → T (not (is_nan x)) → let b = to_bits binary64 x in T (not (nan_bits binary64 (b - b % 2 ^ 27)))
trimmed_not_nan x F n =
    let b = to_bits binary64 x in
    let e : nan_bits binary64 b ≡ is_nan x = nan_bits_is binary64 b ∙ ap is_nan (of_bits-to_bits binary64 x F) in
    let h : ltb (2047 * 2 ^ 52) (b % 2 ^ 63) ≡ false = not_true (ltb (2047 * 2 ^ 52) (b % 2 ^ 63)) (subst (λ (t : Bool). T (not t)) (sym e ∙ nan_bits_above binary64 b) n) in
    let l = ltb-false (2047 * 2 ^ 52) (b % 2 ^ 63) h in
    subst (λ (t : Bool). T (not t)) (sym (nan_bits_above binary64 (b - b % 2 ^ 27))) (le→nltb (2047 * 2 ^ 52) ((b - b % 2 ^ 27) % 2 ^ 63) (omega arith))
  where
    not_true : (t : Bool) → T (not t) → t ≡ false
    not_true true h = absurd h
    not_true false h = refl

-- ---- what equals zero, and what is above it
pub is_zero : (s : Bool) (e : ℤ) → eq (fin s 0 e) zeroᶠ ≡ true
unfolding eq
is_zero true e = rw (eq-eqb (0 * up e * 1) (0 * 1 * down e) (omega arith), eq-eqb (0 * up e * 1) 0 (omega arith))
is_zero false e = rw (eq-eqb (0 * up e * 1) (0 * 1 * down e) (omega arith))

pub not_zero : (s : Bool) (m : ℕ) (e : ℤ) → eq (fin s (suc m) e) zeroᶠ ≡ false
unfolding eq
not_zero s m e = rw (ne_eqb (suc m * up e * 1) (0 * 1 * down e) (λ z. omega (arith, mul-pos (zero-lt-suc m) (up_pos e))))

pub above_zero : (m : ℕ) (e : ℤ) → lt zeroᶠ (fin false (suc m) e) ≡ true
unfolding lt
above_zero m e = lt-ltb (0 * 1 * down e) (suc m * up e * 1) (omega (arith, mul-pos (zero-lt-suc m) (up_pos e)))

pub above_not_zero : (x : Float) → T (above x) → eq x zeroᶠ ≡ false
unfolding eq
above_not_zero nan a = absurd a
above_not_zero (inf s) a = refl
above_not_zero (fin true m e) a = absurd a
above_not_zero (fin false zero e) a = absurd a
above_not_zero (fin false (suc m) e) a = not_zero false m e
