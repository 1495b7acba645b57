-- The whole number nearest to a root is what `root_of` rounds to. Assumes nothing.
use Rattle.std.proofs.Common.{◌≡◌, ℕ, zero, suc, ◌+◌, ◌-◌, ◌*◌, ◌/◌, ◌%◌, ◌^◌, ◌<◌, ◌≤◌, false, T, sym, refl, ap, ◌∙◌, subst, ap₂, mul-le-mul_right, mul_assoc, mul-le-mul_left, mul-lt-mul_of_pos_right, mul-pos, arith, pow_pos, pow-add}
use native.Mathlib.Nat.{le-pred_of_lt, pow-succ'}
use native.Mathlib.Omega.{by_contra}
use lib.Ieee.{binary64, units, to_bits, of_bits, fits}
use lib.Ieee.Fits.{round-fits}
use lib.Ieee.Bits.{of_bits-to_bits}
use Rattle.number.specs.Root.{twice_root, root_of, NearestWhole}
use Rattle.number.proofs.FloorRoot.{above_twice, above_twice_le, below_twice}
use Rattle.number.proofs.Units.{round_near, units_bits}

-- ---- the root's range

pub near_ge : (c q : ℕ) → 2 ^ 52 ≤ c → NearestWhole c q → 2 ^ 52 ≤ q
near_ge c q C h = by_contra (2 ^ 52) q (λ (l : q < 2 ^ 52). omega (arith, mul-le-mul_left q (le-pred_of_lt l), h.high))

pub near_lt : (c q : ℕ) → c ≤ 2 ^ 54 - 2 → NearestWhole c q → q < 2 ^ 53
near_lt c q C h = by_contra (suc q) (2 ^ 53) (λ (l : 2 ^ 53 < suc q). no l)
  where
    no : 2 ^ 53 < suc q → ⊥
    no l = let g : 2 ^ 53 ≤ q = omega arith in omega (arith, mul-le-mul_left q g, h.low)

-- ---- the bounds on twice the root of M * (2 B) ^ 2: (2 q - 1) ^ 2 < 4 M < (2 q + 1) ^ 2

low_side : (M B q : ℕ) → 0 < B → q * q < M + q → q * (2 * (2 * B)) < twice_root (M * (2 * B * (2 * B))) + 2 * B
low_side M B zero P h = omega arith
low_side M B (suc p) P h =
    let u = p + suc p in
    let l : u * u < 4 * M = omega arith in
    omega (arith, above_twice (M * (2 * B * (2 * B))) (u * B) (omega (arith, mul-lt-mul_of_pos_right l (mul-pos P P))))

high_side : (M B q : ℕ) → 0 < B → M ≤ q * q + q → twice_root (M * (2 * B * (2 * B))) < q * (2 * (2 * B)) + 2 * B
high_side M B q P h =
    let v = q + suc q in
    let l : 4 * M < v * v = omega arith in
    omega (arith, below_twice (M * (2 * B * (2 * B))) (v * B) (omega (arith, mul-lt-mul_of_pos_right l (mul-pos P P))))

range_low : (M A : ℕ) → 2 ^ 104 ≤ M → 2 ^ 53 * A ≤ twice_root (M * (A * A))
range_low M A h = omega (arith, above_twice_le (M * (A * A)) (2 ^ 52 * A) (omega (arith, mul-le-mul_right (A * A) h)))

range_high : (M A : ℕ) → 0 < A → M < 2 ^ 106 → twice_root (M * (A * A)) < 2 ^ 54 * A
range_high M A P h = omega (arith, below_twice (M * (A * A)) (2 ^ 53 * A) (omega (arith, mul-lt-mul_of_pos_right h (mul-pos P P))))

-- ---- the root of c * 2 ^ 52 * 4 ^ j, and its bits

pub root_units : (c i q : ℕ) → 2 ^ 52 ≤ c → c ≤ 2 ^ 54 - 2 → NearestWhole c q → root_of (c * 2 ^ 52 * (2 ^ suc i * 2 ^ suc i)) ≡ units binary64 false q (suc i + 474)
unfolding root_of
root_units c i q lo hi h =
    let M = c * 2 ^ 52 in
    let j = suc i in
    let e : 2 ^ j ≡ 2 * 2 ^ i = pow-succ' 2 i in
    let Q : 2 ^ 52 ≤ q = near_ge c q lo h in
    let a : 2 ^ 53 * 2 ^ j ≤ twice_root (M * (2 ^ j * 2 ^ j)) = range_low M (2 ^ j) (omega arith) in
    let b : twice_root (M * (2 ^ j * 2 ^ j)) < 2 ^ 54 * 2 ^ j = range_high M (2 ^ j) (pow_pos j) (omega arith) in
    let l : q * (2 * 2 ^ j) < twice_root (M * (2 ^ j * 2 ^ j)) + 2 ^ j = subst (λ (A : ℕ). q * (2 * A) < twice_root (M * (A * A)) + A) (sym e) (low_side M (2 ^ i) q (pow_pos i) h.low) in
    let g : twice_root (M * (2 ^ j * 2 ^ j)) < q * (2 * 2 ^ j) + 2 ^ j = subst (λ (A : ℕ). twice_root (M * (A * A)) < q * (2 * A) + A) (sym e) (high_side M (2 ^ i) q (pow_pos i) h.high) in
    round_near (twice_root (M * (2 ^ j * 2 ^ j))) q j a b l g

pub root_bits : (c i q : ℕ) → 2 ^ 52 ≤ c → c ≤ 2 ^ 54 - 2 → i ≤ 1500 → NearestWhole c q → to_bits binary64 (root_of (c * 2 ^ 52 * (2 ^ suc i * 2 ^ suc i))) ≡ (suc i + 474) * 2 ^ 52 + q
root_bits c i q lo hi I h =
    ap (to_bits binary64) (root_units c i q lo hi h) ∙ units_bits q (suc i + 474) (near_ge c q lo h) (near_lt c q hi h) (omega arith)

pub two_pow_bit : (p : ℕ) → p < 2 → 2 ^ p ≡ 1 + p
two_pow_bit zero h = refl
two_pow_bit (suc zero) h = refl
two_pow_bit (suc (suc p)) h = omega arith

-- c * 2 ^ (w + 52), with an even power of two split off
pub even_power : (c w : ℕ) → c * 2 ^ (w + 52) ≡ c * (1 + w % 2) * 2 ^ 52 * (2 ^ (w / 2) * 2 ^ (w / 2))
even_power c w =
    let p : 2 ^ (w + 52) ≡ (1 + w % 2) * (2 ^ 52 * (2 ^ (w / 2) * 2 ^ (w / 2))) =
    ap (λ (x : ℕ). 2 ^ x) e ∙ pow-add 2 (w % 2) (52 + (w / 2 + w / 2)) ∙ ap₂ ◌*◌ (two_pow_bit (w % 2) (omega arith)) (pow-add 2 52 (w / 2 + w / 2) ∙ ap (λ (x : ℕ). 2 ^ 52 * x) (pow-add 2 (w / 2) (w / 2))) in
    ap (λ (x : ℕ). c * x) p ∙ simp mul_assoc
  where
    e : w + 52 ≡ w % 2 + (52 + (w / 2 + w / 2))
    e = omega arith

pub root_fits : (n : ℕ) → T (fits binary64 (root_of n))
unfolding root_of
root_fits n = round-fits binary64 false (twice_root n) (2 ^ 601)

-- c, or twice c
pub parity_ge : (c p : ℕ) → p < 2 → 2 ^ 52 ≤ c → 2 ^ 52 ≤ c * (1 + p)
parity_ge c zero l lo = omega arith
parity_ge c (suc zero) l lo = omega arith
parity_ge c (suc (suc p)) l lo = omega arith

pub parity_le : (c p : ℕ) → p < 2 → c < 2 ^ 53 → c * (1 + p) ≤ 2 ^ 54 - 2
parity_le c zero l hi = omega arith
parity_le c (suc zero) l hi = omega arith
parity_le c (suc (suc p)) l hi = omega arith

-- c, or twice c, has 53 or 54 digits
pub digits_le : {c : ℕ} (w : ℕ) → c < 2 ^ 53 → c * (1 + w % 2) ≤ 2 ^ 54 - 2
digits_le {c} w hi = parity_le c (w % 2) (omega arith) hi

pub root_is : (c w q : ℕ) → 2 ^ 52 ≤ c → c < 2 ^ 53 → 2 ≤ w → w ≤ 2119 → NearestWhole (c * (1 + w % 2)) q → of_bits binary64 ((w / 2 + 474) * 2 ^ 52 + q) ≡ root_of (c * 2 ^ (w + 52))
root_is c w q lo hi W X h = go (w / 2) refl
  where
    go : (j : ℕ) → w / 2 ≡ j → of_bits binary64 ((w / 2 + 474) * 2 ^ 52 + q) ≡ root_of (c * 2 ^ (w + 52))
    go zero e = absurd (omega arith)
    go (suc i) e =
        ap (λ (x : ℕ). of_bits binary64 ((x + 474) * 2 ^ 52 + q)) e
        ∙ ap (of_bits binary64) (sym (root_bits (c * (1 + w % 2)) i q (parity_ge c (w % 2) (omega arith) lo) (parity_le c (w % 2) (omega arith) hi) (omega arith) h))
        ∙ of_bits-to_bits binary64 (root_of (c * (1 + w % 2) * 2 ^ 52 * (2 ^ suc i * 2 ^ suc i))) (root_fits (c * (1 + w % 2) * 2 ^ 52 * (2 ^ suc i * 2 ^ suc i)))
        ∙ ap root_of (ap (λ (x : ℕ). c * (1 + w % 2) * 2 ^ 52 * (2 ^ x * 2 ^ x)) (sym e) ∙ sym (even_power c w))
