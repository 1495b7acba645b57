-- A float's bits from its value, and where `round` goes to. Assumes nothing.
use Rattle.std.proofs.Common.{◌≡◌, ℕ, zero, suc, ◌+◌, ◌-◌, ◌*◌, ◌/◌, ◌%◌, ◌^◌, ◌<◌, ◌≤◌, Bool, false, cond, not, T, sym, refl, ap, ◌∙◌, subst, lt_of_lt_of_le, lt_of_le_of_lt, mul-le-mul_right, mod-lt, zero-lt-suc, div-lt_iff_lt-mul, le_antisymm, lt_of_mul-lt-mul_right, mul-lt-mul_of_pos_right, mul-pos, div-add-mod', le-div_iff_mul-le, zero-add, mul_right_comm, le_of_mul-le-mul_right, mul-div_cancel, arith, eqb→eq, leb→le, pow_pos, pow_mono, pow-add, shl_lt}
use Prim.Native.Nat.{compare, Ordering}
use native.Mathlib.Omega.{by_contra}
use lib.Dec.{is_le, compare_is_eq, nleb→lt}
use lib.Arith.{lt_of_le-ne}
use lib.Ieee.{Float, nan, inf, fin, Format, binary64, prec, low, hid, top, up, down, size, nearest, units, round, to_bits, of_bits, fits}
use lib.Ieee.Digits.{size-le, size-lt}
use lib.Ieee.Fits.{down_pos, core, round_is, eq→eqb}
use lib.Ieee.Exact.{HasValue, units_val}
use lib.Ieee.Nearest.{closest, closest_same, div_same}
use lib.Ieee.Bits.{of_bits-to_bits}
use Rattle.number.proofs.Basics.{pow_lt_says}

-- ---- bits

-- a number of 53 + k digits drops k of them
dropped : (k n : ℕ) → 2 ^ (52 + k) ≤ n → n < 2 ^ (53 + k) → size n - 53 ≡ k
dropped k n lo hi = let z : size n ≡ 53 + k = le_antisymm (size-le n (53 + k) hi) (subst (λ (d : ℕ). d ≤ size n) plus (pow_lt_says (52 + k) (size n) (lt_of_le_of_lt lo (size-lt n)))) in omega arith
  where
    plus : suc (52 + k) ≡ 53 + k
    plus = omega arith

-- the bits of a magnitude of n units
abbrev pub pattern : Format → Bool → ℕ → ℕ
pattern f s n = cond s (top f) 0 + (size n - prec f) * hid f + n / 2 ^ (size n - prec f)

pub to_bits_value : (f : Format) (x : Float) (s : Bool) (a c : ℕ) → 0 < c → HasValue x s a c → to_bits f x ≡ pattern f s (a * 2 ^ low f / c)
unfolding to_bits
to_bits_value f nan s a c C h = absurd h
to_bits_value f (inf t) s a c C h = absurd h
to_bits_value f (fin t m e) s a c C h =
    let q : m * up e * 2 ^ low f / down e ≡ a * 2 ^ low f / c =
    div_same (m * up e * 2 ^ low f) (down e) (a * 2 ^ low f) c (down_pos e) C
    (mul_right_comm (m * up e) (2 ^ low f) c ∙ ap (λ (z : ℕ). z * 2 ^ low f) h.1 ∙ mul_right_comm a (down e) (2 ^ low f)) in
    ap (λ (z : ℕ). pattern f t z) q ∙ ap (λ (b : Bool). pattern f b (a * 2 ^ low f / c)) h.0

-- two values that the format holds, of the same sign and size, are the same
pub value_unique : (f : Format) (x y : Float) (s : Bool) (a c : ℕ) → 0 < c → T (fits f x) → T (fits f y) → HasValue x s a c → HasValue y s a c → x ≡ y
value_unique f x y s a c C F G h k =
    sym (of_bits-to_bits f x F) ∙ ap (of_bits f) (to_bits_value f x s a c C h ∙ sym (to_bits_value f y s a c C k)) ∙ of_bits-to_bits f y G

pub units_bits : (q k : ℕ) → 2 ^ 52 ≤ q → q < 2 ^ 53 → k ≤ 2000 → to_bits binary64 (units binary64 false q k) ≡ k * 2 ^ 52 + q
units_bits q k lo hi K =
    let up : q * 2 ^ k < 2 ^ (53 + k) = shl_lt 53 k hi in
    let dn : 2 ^ (52 + k) ≤ q * 2 ^ k = subst (λ (z : ℕ). z ≤ q * 2 ^ k) (sym (pow-add 2 52 k)) (mul-le-mul_right (2 ^ k) lo) in
    let m : 53 + k ≤ 2098 = omega arith in
    let z : size (q * 2 ^ k) - 53 ≡ k = dropped k (q * 2 ^ k) dn up in
    to_bits_value binary64 (units binary64 false q k) false (q * 2 ^ k) (2 ^ 1074) (pow_pos 1074) (units_val binary64 false q k (lt_of_lt_of_le up (pow_mono m)))
    ∙ ap (pattern binary64 false) (mul-div_cancel (q * 2 ^ k) (pow_pos 1074))
    ∙ ap (λ (d : ℕ). 0 + d * 2 ^ 52 + q * 2 ^ k / 2 ^ d) z
    ∙ ap (λ (d : ℕ). 0 + k * 2 ^ 52 + d) (mul-div_cancel q (pow_pos k))
    ∙ ap (λ (d : ℕ). d + q) (zero-add (k * 2 ^ 52))

-- ---- the whole number nearest to n / d

abbrev Cmp : Ordering → ℕ → ℕ → Type 0
Cmp Ordering.lt a b = a < b
Cmp Ordering.eq a b = a ≡ b
Cmp Ordering.gt a b = b < a

compare_says : (a b : ℕ) → Cmp (compare a b) a b
compare_says a b = go (compare a b) (leb→le a b) (nleb→lt a b) (eqb→eq a b) eq→eqb
  where
    go : (o : Ordering) → (T (is_le o) → a ≤ b) → (T (not (is_le o)) → b < a) → (T (compare_is_eq o) → a ≡ b) → (a ≡ b → T (compare_is_eq o)) → Cmp o a b
    go Ordering.lt h k e n = lt_of_le-ne (h tt) n
    go Ordering.eq h k e n = e tt
    go Ordering.gt h k e n = k tt

-- it is within a half
pub closest_near : (n d : ℕ) → 0 < d → (2 * n ≤ 2 * (closest n d * d) + d) × (2 * (closest n d * d) ≤ 2 * n + d)
closest_near n d D =
    subst (λ (x : ℕ). (2 * x ≤ 2 * (closest n d * d) + d) × (2 * (closest n d * d) ≤ 2 * x + d)) (div-add-mod' n d)
    (half (compare (n % d * 2) d) (n / d) (n % d) (mod-lt n D) (compare_says (n % d * 2) d))
  where
    half : (o : Ordering) (q r : ℕ) → r < d → Cmp o (r * 2) d → (2 * (q * d + r) ≤ 2 * (nearest q o * d) + d) × (2 * (nearest q o * d) ≤ 2 * (q * d + r) + d)
    half Ordering.lt q r l c = (omega arith, omega arith)
    half Ordering.eq q r l c = let w : q % 2 * d ≤ 1 * d = mul-le-mul_right d (omega arith) in (omega arith, omega arith)
    half Ordering.gt q r l c = (omega arith, omega arith)

-- and a whole number less than a half from n / (2 A) is it
pub closest_is : (n A q : ℕ) → q * (2 * A) < n + A → n < q * (2 * A) + A → closest n (2 * A) ≡ q
closest_is n zero q l h = absurd (omega arith)
closest_is n (suc A) q l h =
    let d = 2 * suc A in
    let k = closest_near n d (omega arith) in
    le_antisymm
    (by_contra (closest n d) q (λ (g : q < closest n d). omega (arith, mul-le-mul_right d g, k.1)))
    (by_contra q (closest n d) (λ (g : closest n d < q). omega (arith, mul-le-mul_right d g, k.0)))

-- ---- where `round` goes to: num / den is a / E units of 2 ^ (d - 1074), which has 53 digits before the point, so a / E is rounded to a whole number
pub round_at : (s : Bool) (num den d a E : ℕ) → 0 < den → 0 < E → num * 2 ^ 1074 * E ≡ a * (den * 2 ^ d) → 2 ^ 52 * E ≤ a → a < 2 ^ 53 * E → round binary64 s num den ≡ units binary64 s (closest a E) d
round_at s num den d a E P Q same lo hi =
    let n = num * 2 ^ 1074 in
    let w = n / den in
    let z : size w - 53 ≡ d = dropped d w ((le-div_iff_mul-le P).1 (rw (pow-add 2 52 d) (low_end n (2 ^ d) same))) ((div-lt_iff_lt-mul P).1 (rw (pow-add 2 53 d) (high_end n (2 ^ d) (pow_pos d) same))) in
    round_is binary64 s num den
    ∙ ap (core binary64 s n den) z
    ∙ ap (λ (q : ℕ). units binary64 s q d) (closest_same n (den * 2 ^ d) a E (mul-pos P (pow_pos d)) Q same)
  where
    low_end : (n D : ℕ) → n * E ≡ a * (den * D) → 2 ^ 52 * D * den ≤ n
    low_end n D e = le_of_mul-le-mul_right (omega (arith, mul-le-mul_right (den * D) lo)) Q

    high_end : (n D : ℕ) → 0 < D → n * E ≡ a * (den * D) → n < 2 ^ 53 * D * den
    high_end n D p e = lt_of_mul-lt-mul_right E (omega (arith, mul-lt-mul_of_pos_right hi (mul-pos P p)))

-- a fraction R / 2 ^ 601 of 54 + j digits that lies less than half a unit from q units of 2 ^ (j - 600)
pub round_near : (R q j : ℕ) → 2 ^ 53 * 2 ^ j ≤ R → R < 2 ^ 54 * 2 ^ j → q * (2 * 2 ^ j) < R + 2 ^ j → R < q * (2 * 2 ^ j) + 2 ^ j
    → round binary64 false R (2 ^ 601) ≡ units binary64 false q (j + 474)
round_near R q j lo hi a b =
    round_at false R (2 ^ 601) (j + 474) R (2 * 2 ^ j) (pow_pos 601) (mul-pos (zero-lt-suc 1) (pow_pos j)) scale (omega arith) (omega arith)
    ∙ ap (λ (w : ℕ). units binary64 false w (j + 474)) (closest_is R (2 ^ j) q a b)
  where
    regroup : (p a b c : ℕ) → c * 2 ≡ a * b → R * c * (2 * p) ≡ R * (a * (p * b))
    regroup p a b c e = omega (arith, ap (λ (z : ℕ). R * p * z) e)

    scale : R * 2 ^ 1074 * (2 * 2 ^ j) ≡ R * (2 ^ 601 * 2 ^ (j + 474))
    scale = rw (pow-add 2 j 474) (regroup (2 ^ j) (2 ^ 601) (2 ^ 474) (2 ^ 1074) refl)
