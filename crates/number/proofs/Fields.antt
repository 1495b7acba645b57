-- A number above zero by the fields of its bits, and `sqrt_of` by those fields. Assumes nothing.
use Rattle.std.proofs.Common.{◌≡◌, ℕ, zero, suc, ◌+◌, ◌-◌, ◌*◌, ◌/◌, ◌%◌, ◌^◌, ◌<◌, ◌≤◌, Bool, true, false, cond, T, eqb, leb, ℤ, sym, refl, ap, ◌∙◌, subst, true≢false, lt_of_le_of_lt, mul-le-mul_right, mod-eq_of_lt, zero-lt-suc, mul_assoc, add_comm, mul-one, mul_right_comm, mul-div_cancel, arith, ltb→lt, lt→ltb, pow_pos, pow-add, shl_lt, ltb-true, ne_eqb, leb-false}
use mathlib.Core.Bool.{false≢true}
use lib.Dec.{eqb-suc-zero}
use lib.Count.{count_leading_zeros, leading_top}
use lib.Ieee.{Float, nan, inf, fin, binary64, up, down, odd, to_bits, of_bits, of_fields, fits, lt, eq}
use lib.Ieee.Fits.{down_pos}
use lib.Ieee.Exact.{HasValue, odd_sign}
use lib.Ieee.Scale.{finite}
use lib.Ieee.Positive.{num, den, positive, value_pos}
use lib.Ieee.Bits.{of_bits-to_bits}
use borrow.Author.Tests.{eqb-false}
use Rattle.number.specs.Exact.{zeroᶠ}
use Rattle.number.specs.Root.{root_of, sqrt_of}
use Rattle.number.proofs.Basics.{pow_lt_says}
use Rattle.number.proofs.Tests.{is_zero, not_zero, above_zero}

-- ---- above zero `sqrt_of` is `root_of`
pub sqrt_positive : (x : Float) → T (positive x) → sqrt_of x ≡ root_of (num x * 2 ^ 1200 / den x)
unfolding sqrt_of
sqrt_positive nan p = absurd p
sqrt_positive (inf s) p = absurd p
sqrt_positive (fin true m e) p = absurd p
sqrt_positive (fin false m e) p = rw (ne_eqb m 0 (λ z. omega (arith, ltb→lt 0 m p)))

-- of n units of 2 ^ -1074 it is that of n * 2 ^ 126 units of 2 ^ -1200
pub sqrt_units : (x : Float) (n : ℕ) → T (positive x) → HasValue x false n (2 ^ 1074) → sqrt_of x ≡ root_of (n * 2 ^ 126)
sqrt_units nan n p h = absurd p
sqrt_units (inf s) n p h = absurd p
sqrt_units (fin true m e) n p h = absurd p
sqrt_units (fin false m e) n p h =
    sqrt_positive (fin false m e) p
    ∙ ap (λ (y : ℕ). root_of (y / down e)) (sym (mul_assoc (m * up e) (2 ^ 1074) (2 ^ 126)) ∙ ap (λ (y : ℕ). y * 2 ^ 126) h.1 ∙ mul_right_comm n (down e) (2 ^ 126))
    ∙ ap root_of (mul-div_cancel (n * 2 ^ 126) (down_pos e))

-- ---- the size, in units of 2 ^ -1074, that an exponent's field and the digits say
abbrev pub units_of : ℕ → ℕ → ℕ
units_of zero t = t * 2 ^ 0
units_of (suc x) t = (2 ^ 52 + t) * 2 ^ x

fields_say : (s : Bool) (x t m : ℕ) (e : ℤ) → of_fields binary64 s x t ≡ fin false m e → (s ≡ false) × (x ≡ 2047 → ⊥) × (m * up e * 2 ^ 1074 ≡ units_of x t * down e)
unfolding of_fields
fields_say s zero t m e p =
    let h : HasValue (fin false m e) s (t * 2 ^ 0) (2 ^ 1074) = subst (λ (v : Float). HasValue v s (t * 2 ^ 0) (2 ^ 1074)) p (odd_sign 53 s t 0 1074) in
    (sym h.0, (λ q. eqb-false 0 2047 refl q), h.1)
fields_say s (suc x) t m e p = go (eqb (suc x) 2047) refl p
  where
    no_inf : (b : Bool) → cond b (inf s) nan ≡ fin false m e → ⊥
    no_inf true p = subst (λ (v : Float). T (finite v)) (sym p) tt
    no_inf false p = subst (λ (v : Float). T (finite v)) (sym p) tt

    go : (b : Bool) → eqb (suc x) 2047 ≡ b → cond b (cond (eqb t 0) (inf s) nan) (odd 53 s (2 ^ 52 + t) x 1074) ≡ fin false m e → (s ≡ false) × (suc x ≡ 2047 → ⊥) × (m * up e * 2 ^ 1074 ≡ units_of (suc x) t * down e)
    go true q p = absurd (no_inf (eqb t 0) p)
    go false q p =
        let h : HasValue (fin false m e) s ((2 ^ 52 + t) * 2 ^ x) (2 ^ 1074) = subst (λ (v : Float). HasValue v s ((2 ^ 52 + t) * 2 ^ x) (2 ^ 1074)) p (odd_sign 53 s (2 ^ 52 + t) x 1074) in
        (sym h.0, eqb-false (suc x) 2047 q, h.1)

bits_say : (m : ℕ) (e : ℤ) → T (fits binary64 (fin false m e)) →
    let b = to_bits binary64 (fin false m e) in (b < 2 ^ 63) × (b / 2 ^ 52 ≡ 2047 → ⊥) × (m * up e * 2 ^ 1074 ≡ units_of (b / 2 ^ 52) (b % 2 ^ 52) * down e)
unfolding of_bits
bits_say m e F =
    let b = to_bits binary64 (fin false m e) in
    let h = fields_say (leb (2 ^ 63) b) (b % 2 ^ 63 / 2 ^ 52) (b % 2 ^ 52) m e (of_bits-to_bits binary64 (fin false m e) F) in
    let l : b < 2 ^ 63 = leb-false (2 ^ 63) b h.0 in
    let q : b % 2 ^ 63 / 2 ^ 52 ≡ b / 2 ^ 52 = ap (λ (y : ℕ). y / 2 ^ 52) (mod-eq_of_lt l) in
    (l, (λ k. h.1 (q ∙ k)), h.2 ∙ ap (λ (y : ℕ). units_of y (b % 2 ^ 52) * down e) q)

-- ---- `sqrt_of` by the fields of x's bits b: `under` for a field of 0, `over` for another
pub record Main (x : Float) (b : ℕ) : Type 0 where
  pub small : b < 2 ^ 63
  pub field : b / 2 ^ 52 < 2047
  pub some : b / 2 ^ 52 ≡ 0 → 0 < b % 2 ^ 52
  pub under : b / 2 ^ 52 ≡ 0 → sqrt_of x ≡ root_of (b % 2 ^ 52 * 2 ^ 126)
  pub over : (b / 2 ^ 52 ≡ 0 → ⊥) → sqrt_of x ≡ root_of ((b % 2 ^ 52 + 2 ^ 52) * 2 ^ (b / 2 ^ 52 + 73 + 52))

power : (x t : ℕ) → (x ≡ 0 → ⊥) → units_of x t * 2 ^ 126 ≡ (t + 2 ^ 52) * 2 ^ (x + 73 + 52)
power zero t z = absurd (z refl)
power (suc x) t z =
    mul_assoc (2 ^ 52 + t) (2 ^ x) (2 ^ 126)
    ∙ ap (λ (y : ℕ). (2 ^ 52 + t) * y) (sym (pow-add 2 x 126) ∙ ap (λ (y : ℕ). 2 ^ y) shift)
    ∙ ap (λ (y : ℕ). y * 2 ^ (suc x + 73 + 52)) (add_comm (2 ^ 52) t)
  where
    shift : x + 126 ≡ suc x + 73 + 52
    shift = omega arith

pub main_law : (x : Float) → T (fits binary64 x) → T (positive x) → Main x (to_bits binary64 x)
main_law nan F p = absurd p
main_law (inf s) F p = absurd p
main_law (fin true m e) F p = absurd p
main_law (fin false m e) F p =
    let b = to_bits binary64 (fin false m e) in
    let h = bits_say m e F in
    let l : b < 2 ^ 63 = h.0 in
    let g : b / 2 ^ 52 ≡ 2047 → ⊥ = h.1 in
    let u : b / 2 ^ 52 ≡ 0 → m * up e * 2 ^ 1074 ≡ b % 2 ^ 52 * down e = λ z. h.2 ∙ ap (λ (y : ℕ). units_of y (b % 2 ^ 52) * down e) z ∙ ap (λ (y : ℕ). y * down e) (mul-one (b % 2 ^ 52)) in
    record {
      small = l;
      field = omega arith;
      some = λ z. value_pos (fin false m e) (b % 2 ^ 52) (2 ^ 1074) p (pow_pos 1074) (refl, u z);
      under = λ z. sqrt_units (fin false m e) (b % 2 ^ 52) p (refl, u z);
      over = λ z. sqrt_units (fin false m e) (units_of (b / 2 ^ 52) (b % 2 ^ 52)) p (refl, h.2) ∙ ap root_of (power (b / 2 ^ 52) (b % 2 ^ 52) z);
    }

-- ---- which argument passes which test
pub is_positive : (x : Float) → lt zeroᶠ x ≡ true → lt x (inf false) ≡ true → T (positive x)
unfolding lt
is_positive nan h k = absurd (false≢true h)
is_positive (inf true) h k = absurd (false≢true h)
is_positive (inf false) h k = absurd (false≢true k)
is_positive (fin true m e) h k = absurd (false≢true h)
is_positive (fin false zero e) h k = absurd (omega (arith, ltb-true (0 * 1 * down e) (0 * up e * 1) h))
is_positive (fin false (suc m) e) h k = lt→ltb 0 (suc m) (zero-lt-suc m)

pub at_infinity : (x : Float) → lt zeroᶠ x ≡ true → lt x (inf false) ≡ false → x ≡ sqrt_of x
unfolding lt sqrt_of
at_infinity nan h k = absurd (false≢true h)
at_infinity (inf true) h k = absurd (false≢true h)
at_infinity (inf false) h k = refl
at_infinity (fin true m e) h k = absurd (false≢true h)
at_infinity (fin false m e) h k = absurd (true≢false k)

-- what is not above zero: a zero is its own root, and the rest has none
pub not_above : (x : Float) → lt zeroᶠ x ≡ false → cond (eq x zeroᶠ) x nan ≡ sqrt_of x
unfolding lt eq sqrt_of
not_above nan h = refl
not_above (inf true) h = refl
not_above (inf false) h = absurd (true≢false h)
not_above (fin s zero e) h = rw (is_zero s e)
not_above (fin true (suc m) e) h = rw (not_zero true m e, eqb-suc-zero m)
not_above (fin false (suc m) e) h = absurd (true≢false (sym (above_zero m e) ∙ h))

-- ---- a subnormal number's digits, moved up
pub record Moved (t : ℕ) : Type 0 where
  pub eleven : 11 ≤ count_leading_zeros 64 t
  pub far : count_leading_zeros 64 t - 11 ≤ 52
  pub lo : 2 ^ 52 ≤ t * 2 ^ (count_leading_zeros 64 t - 11) % 2 ^ 64
  pub hi : t * 2 ^ (count_leading_zeros 64 t - 11) % 2 ^ 64 < 2 ^ 53
  pub same : t * 2 ^ (count_leading_zeros 64 t - 11) % 2 ^ 64 * 2 ^ (74 - (count_leading_zeros 64 t - 11) + 52) ≡ t * 2 ^ 126

pub moved : (t : ℕ) → 0 < t → t < 2 ^ 52 → Moved t
moved t p h =
    let g : t < 2 ^ 64 = omega arith in
    let k = leading_top 64 t p g in
    let j = k.0 in
    let z : count_leading_zeros 64 t + suc j ≡ 64 = k.1 in
    let top : j < 52 = pow_lt_says j 52 (lt_of_le_of_lt k.2 h) in
    let l = count_leading_zeros 64 t - 11 in
    let a : j + l ≡ 52 = omega arith in
    let lo' : 2 ^ 52 ≤ t * 2 ^ l = subst (λ (y : ℕ). y ≤ t * 2 ^ l) (sym (pow-add 2 j l) ∙ ap (λ (y : ℕ). 2 ^ y) a) (mul-le-mul_right (2 ^ l) k.2) in
    let hi' : t * 2 ^ l < 2 ^ 53 = subst (λ (y : ℕ). t * 2 ^ l < 2 ^ y) (more j l a) (shl_lt (suc j) l k.3) in
    let m : t * 2 ^ l % 2 ^ 64 ≡ t * 2 ^ l = mod-eq_of_lt (wide (t * 2 ^ l) hi') in
    record {
      eleven = omega arith;
      far = omega arith;
      lo = subst (λ (y : ℕ). 2 ^ 52 ≤ y) (sym m) lo';
      hi = subst (λ (y : ℕ). y < 2 ^ 53) (sym m) hi';
      same =
          ap (λ (y : ℕ). y * 2 ^ (74 - l + 52)) m
          ∙ mul_assoc t (2 ^ l) (2 ^ (74 - l + 52))
          ∙ ap (λ (y : ℕ). t * y) (sym (pow-add 2 l (74 - l + 52)) ∙ ap (λ (y : ℕ). 2 ^ y) (rest l (omega arith)));
    }
  where
    wide : (y : ℕ) → y < 2 ^ 53 → y < 2 ^ 64
    wide y h = omega arith

    more : (j l : ℕ) → j + l ≡ 52 → suc j + l ≡ 53
    more j l a = omega arith

    rest : (l : ℕ) → l ≤ 52 → l + (74 - l + 52) ≡ 126
    rest l h = omega arith
