-- The laws of one rounding: where it is exact, that it keeps the order, and how large its error is. Assumes nothing.
use Rattle.std.proofs.Common.{◌≡◌, ℕ, zero, suc, ◌+◌, ◌-◌, ◌*◌, ◌/◌, ◌^◌, ◌<◌, ◌≤◌, Bool, true, false, cond, not, T, eqb, ltb, ◌⊎◌, [], ◌∷◌, ℤ, pos, ◌+ℤ◌, ◌-ℤ◌, ◌*ℤ◌, neg_ℤ, nat_abs, sym, refl, ap, ◌∙◌, subst, ap₂, inl, inr, ⊎_elim, zero-le, le_trans, le_of_eq, lt_of_lt_of_le, lt_of_le_of_lt, lt_irrefl, mul-le-mul_right, mul_assoc, mul_comm, eq-zero-or-pos, eq-or-lt_of_le, mul-pos, one-mul, lt_of_not-le, mul-one, div-mul-le_self, arith, lit<, lit≤, pow_pos, pow_mono, pow-add, shl_lt}
use mathlib.Core.Bool.{beq}
use native.Mathlib.Nat.{pow-succ'}
use native.Mathlib.Decide.{dec_le}
use lib.IntN.{neg_ℤ-neg_ℤ, *ℤ_comm}
use lib.Ieee.{Float, nan, inf, fin, Format, binary64, prec, emax, low, up, down, unlike, size, odd, units, round, div, neg, le}
use lib.Ieee.Digits.{size_reaches, back}
use lib.Ieee.Fits.{round_is}
use lib.Ieee.Exact.{HasValue, units_val, round_exact}
use lib.Ieee.Order.{drop, kept, round_mono}
use lib.Ieee.Scale.{round_same, grid}
use Rattle.algebra.proofs.Quote.{quote, ring}
use Rattle.algebra.proofs.Lin as L
use Rattle.algebra.proofs.Lin.{le_from, false_from}
use Rattle.algebra.specs.Int.{*ℤ-assoc, one-*ℤ}
use Rattle.algebra.specs.Order.{◌≦◌, ◌≺◌, Within, absℤ, abs_le, abs_mul, within_le, within_neg, within_nat_abs, nat_abs_neg, nonneg_nat, pos_le, pos_lt, le_pos, pos_nonneg, ≤ℤ-trans, ≤ℤ-of-eq, ≤ℤ-<ℤ-trans, <ℤ→≤ℤ, mul_nonneg, negℤ_anti, le_of_within}
use Rattle.algebra.proofs.Mono.{mul_mono, mul_cancel, within_mul, within_cancel}
use Rattle.algebra.specs.Sign.{signed}
use Rattle.algebra.proofs.SignedLaws.{nat_abs_signed, neg_signed, mul_signed_pos}
use Rattle.number.specs.Exact.{Is}
use Rattle.number.specs.Rounding.{Rounds, Rounded, Result}
use Rattle.number.proofs.Units.{closest_near}
use Rattle.number.proofs.Compare.{HasSign, le_is, le_of_signs, le_neg}

-- ---- exact: at most 53 digits, and no part of 2 ^ -1074

-- 2 ^ 53 itself has 54 digits, and is 1 * 2 ^ 53
digits : (a : ℕ) → a ≤ 2 ^ 53 → (q : ℕ) × (j : ℕ) × (q < 2 ^ 53) × (j ≤ 53) × (a ≡ q * 2 ^ j)
digits a h = ⊎_elim (λ (e : a ≡ 2 ^ 53). (1, 53, lit< tt, lit≤ tt, e ∙ sym (one-mul (2 ^ 53)))) (λ (l : a < 2 ^ 53). (a, 0, l, zero-le, sym (mul-one a))) (eq-or-lt_of_le h)

pub round_is_exact : (s : Bool) (a k : ℕ) → k ≤ 1074 → a ≤ 2 ^ 53 → HasValue (round binary64 s a (2 ^ k)) s a (2 ^ k)
round_is_exact s a k K A = go (digits a A)
  where
    go : (q : ℕ) × (j : ℕ) × (q < 2 ^ 53) × (j ≤ 53) × (a ≡ q * 2 ^ j) → HasValue (round binary64 s a (2 ^ k)) s a (2 ^ k)
    go (q, j, Q, J, e) =
        let i = j + (1074 - k) in
        round_exact binary64 s a (2 ^ k) q i (pow_pos k) Q (lt_of_lt_of_le (shl_lt 53 i Q) (pow_mono {j = 2098} (omega arith)))
        (ap₂ ◌*◌ e (ap (λ (v : ℕ). 2 ^ v) (sym (back 1074 k K))) ∙ simp (pow-add, mul_assoc))

rounds_mag : {x : Float} {n : ℤ} {c : ℕ} (h : Rounds x n c) → h.mag ≡ nat_abs n
rounds_mag h = sym (nat_abs_signed h.sign h.mag) ∙ ap nat_abs h.val

pub rounds_exact : {x : Float} {n : ℤ} (k : ℕ) → Rounds x n (2 ^ k) → k ≤ 1074 → nat_abs n ≤ 2 ^ 53 → Is k x n
rounds_exact {x} {n} k h K A = record {
  sign = h.sign;
  mag = h.mag;
  has = subst (λ (v : Float). HasValue v h.sign h.mag (2 ^ k)) (sym h.same) (round_is_exact h.sign h.mag k K (subst (λ (m : ℕ). m ≤ 2 ^ 53) (sym (rounds_mag h)) A));
  is = h.val;
}

-- ---- the order

units_opposite : (f : Format) (s : Bool) (q k : ℕ) → units f (not s) q k ≡ neg (units f s q k)
unfolding units odd neg
units_opposite f s q k = go (ltb (q * 2 ^ k) (2 ^ (low f + suc (emax f)))) q
  where
    go : (b : Bool) (q : ℕ) → cond b (odd (suc (prec f)) (not s) q k (low f)) (inf (not s)) ≡ neg (cond b (odd (suc (prec f)) s q k (low f)) (inf s))
    go true zero = refl
    go true (suc q) = refl
    go false q = refl

turned : (s t : Bool) → unlike s (not t) ≡ not (unlike s t)
turned true true = refl
turned true false = refl
turned false true = refl
turned false false = refl

-- the opposite fraction rounds to the opposite value
pub round_opposite : (f : Format) (s : Bool) (a c : ℕ) → round f (not s) a c ≡ neg (round f s a c)
round_opposite f s a c = round_is f (not s) a c ∙ units_opposite f s (kept (prec f) (a * 2 ^ low f) c) (drop (prec f) (a * 2 ^ low f) c) ∙ ap neg (sym (round_is f s a c))

-- a quotient by the opposite is the opposite
pub div_opposite : (f : Format) (x y : Float) → div f x (neg y) ≡ neg (div f x y)
unfolding div neg
div_opposite f nan y = refl
div_opposite f (inf s) nan = refl
div_opposite f (inf s) (inf t) = refl
div_opposite f (inf s) (fin t n d) = ap inf (turned s t)
div_opposite f (fin s m e) nan = refl
div_opposite f (fin s m e) (inf t) = ap (λ (u : Bool). fin u 0 (pos 0)) (turned s t)
div_opposite f (fin s m e) (fin t n d) = rw (turned s t, round_opposite f (unlike s t) (m * up e * down d) (n * up d * down e)) (go (eqb n 0) (eqb m 0))
  where
    go : (a b : Bool) → cond a (cond b nan (inf (not (unlike s t)))) (neg (round f (unlike s t) (m * up e * down d) (n * up d * down e)))
        ≡ neg (cond a (cond b nan (inf (unlike s t))) (round f (unlike s t) (m * up e * down d) (n * up d * down e)))
    go true true = refl
    go true false = refl
    go false b = refl

pub rounds_neg : {x : Float} {n : ℤ} {c : ℕ} → Rounds x n c → Rounds (neg x) (neg_ℤ n) c
rounds_neg {c = c} h = record { sign = not h.sign; mag = h.mag; den_pos = h.den_pos; same = ap neg h.same ∙ sym (round_opposite binary64 h.sign h.mag c); val = sym (neg_signed h.sign h.mag) ∙ ap neg_ℤ h.val }

units_sign : (f : Format) (s : Bool) (q k : ℕ) → HasSign (units f s q k) s
unfolding units odd
units_sign f s q k = go (ltb (q * 2 ^ k) (2 ^ (low f + suc (emax f)))) q
  where
    own : (s : Bool) → T (beq s s)
    own false = tt
    own true = tt

    go : (b : Bool) (q : ℕ) → HasSign (cond b (odd (suc (prec f)) s q k (low f)) (inf s)) s
    go true zero = own s
    go true (suc q) = own s
    go false q = own s

pub round_sign : (f : Format) (s : Bool) (a c : ℕ) → HasSign (round f s a c) s
round_sign f s a c = subst (λ (v : Float). HasSign v s) (sym (round_is f s a c)) (units_sign f s (kept (prec f) (a * 2 ^ low f) c) (drop (prec f) (a * 2 ^ low f) c))

-- 0 / c is 0 / 1, of which `round` computes
pub round_zero : (s : Bool) (c : ℕ) → 0 < c → round binary64 s 0 c ≡ fin s 0 (pos 0)
unfolding round
round_zero s c C = round_same binary64 s 0 c 0 1 C (lit< tt) (omega arith)

factor_zero : (m n : ℕ) → 0 < n → m * n ≤ 0 → m ≡ 0
factor_zero m n N h = ⊎_elim (λ e. e) (λ (M : 0 < m). absurd (lt_irrefl 0 (le_trans (mul-pos M N) h))) (eq-zero-or-pos m)

-- Two fractions that are not negative are lib.Ieee's case, and two that are not positive are its opposite. A negative one is below any other by its sign.
-- And one that is not negative is at most one that is not positive only where both are 0.
round_order : (s t : Bool) (a c b d : ℕ) → 0 < c → 0 < d → signed s a *ℤ pos d ≦ signed t b *ℤ pos c → T (le (round binary64 s a c) (round binary64 t b d))
round_order false false a c b d C D h = round_mono binary64 a c b d C D (le_pos h)
round_order true true a c b d C D h =
    rw (round_opposite binary64 false a c, round_opposite binary64 false b d)
    (le_neg (round binary64 false b d) (round binary64 false a c) (round_mono binary64 b d a c D C (le_pos (turned (pos a) (pos c) (pos b) (pos d) h))))
  where
    turned : (a c b d : ℤ) → neg_ℤ a *ℤ d ≦ neg_ℤ b *ℤ c → b *ℤ c ≦ a *ℤ d
    turned a c b d h = le_from (a ∷ c ∷ b ∷ d ∷ []) (L.le h ∷ []) (search quote depth 30) (omega arith)
round_order true false a c b d C D h = le_of_signs (round binary64 true a c) (round binary64 false b d) (round_sign binary64 true a c) (round_sign binary64 false b d)
round_order false true a c b d C D h =
    let l : a * d + b * c ≤ 0 = le_pos (one_side (pos a) (pos c) (pos b) (pos d) h) in
    let A : a ≡ 0 = factor_zero a d D (omega arith) in
    let B : b ≡ 0 = factor_zero b c C (omega arith) in
    rw (A, B, round_zero false c C, round_zero true d D) (unfold le in tt)
  where
    one_side : (a c b d : ℤ) → a *ℤ d ≦ neg_ℤ b *ℤ c → a *ℤ d +ℤ b *ℤ c ≦ pos 0
    one_side a c b d h = le_from (a ∷ c ∷ b ∷ d ∷ []) (L.le h ∷ []) (search quote depth 30) (omega arith)

-- n / c ≤ n' / c', of either sign and of any size, infinities included: the rounded values are in that order
pub rounds_order : {x y : Float} {n n' : ℤ} {c c' : ℕ} → Rounds x n c → Rounds y n' c' → n *ℤ pos c' ≦ n' *ℤ pos c → T (le x y)
rounds_order {c = c} {c' = c'} h g l =
    rw (h.same, g.same) (round_order h.sign g.sign h.mag c g.mag c' h.den_pos g.den_pos (rw (h.val, g.val) l))

-- the same of the whole numbers that the values are
pub rounds_order_is : {x y : Float} {n n' : ℤ} {c c' k : ℕ} {R R' : ℤ} → Rounds x n c → Rounds y n' c' → Is k x R → Is k y R' → n *ℤ pos c' ≦ n' *ℤ pos c → R ≦ R'
rounds_order_is h g i j l = record { le = subst T (le_is i j) (rounds_order h g l) }

-- ---- the error of R, which is n / c rounded

pub rounded_neg : {R n c : ℤ} → Rounded R n c → Rounded (neg_ℤ R) (neg_ℤ n) c
rounded_neg {R} {n} {c} r = record {
  k = r.k;
  near = subst (λ (v : ℤ). Within v (pos (2 ^ r.k) *ℤ c)) (ring (R ∷ n ∷ c ∷ []) (search quote depth 30) tt) (within_neg r.near);
  size = rw (nat_abs_neg n) r.size;
}

-- a common factor of n and c is left out
pub rounded_cancel : {R n c : ℤ} (u : ℤ) → pos 0 ≺ u → Rounded R (n *ℤ u) (c *ℤ u) → Rounded R n c
rounded_cancel {R} {n} {c} u U r = record {
  k = r.k;
  near = within_cancel u U (subst (λ (v : ℤ). Within v (pos (2 ^ r.k) *ℤ c *ℤ u)) (ring (R ∷ n ∷ c ∷ u ∷ []) (search quote depth 30) tt)
      (subst (λ (v : ℤ). Within (pos 2 *ℤ (R *ℤ (c *ℤ u) -ℤ n *ℤ u)) v) (sym (*ℤ-assoc (pos (2 ^ r.k)) c u)) r.near));
  size = ⊎_elim inl (λ g. inr (mul_cancel u (pos (2 ^ 52) *ℤ (pos (2 ^ r.k) *ℤ c)) (absℤ n) U (part (pos (2 ^ r.k)) (absℤ n) (subst (λ (v : ℤ). pos (2 ^ 52) *ℤ (pos (2 ^ r.k) *ℤ (c *ℤ u)) ≦ v) whole g)))) r.size;
}
  where
    whole : absℤ (n *ℤ u) ≡ absℤ n *ℤ u
    whole = abs_mul n u ∙ ap (λ (v : ℤ). absℤ n *ℤ v) (nonneg_nat (<ℤ→≤ℤ U))

    part : (p m : ℤ) → pos (2 ^ 52) *ℤ (p *ℤ (c *ℤ u)) ≦ m *ℤ u → pos (2 ^ 52) *ℤ (p *ℤ c) *ℤ u ≦ m *ℤ u
    part p m g = le_from (p ∷ m ∷ c ∷ u ∷ []) (L.le g ∷ []) (search quote depth 30) (omega arith)

-- |n / c| < 2 ^ (53 + j): the error is at most half of 2 ^ j
pub rounded_absolute : {R n c : ℤ} (j : ℕ) → pos 0 ≺ c → Rounded R n c → absℤ n ≺ pos (2 ^ 53) *ℤ (pos (2 ^ j) *ℤ c) → Within (pos 2 *ℤ (R *ℤ c -ℤ n)) (pos (2 ^ j) *ℤ c)
rounded_absolute {R} {n} {c} j C r h = within_le r.near (mul_mono c (<ℤ→≤ℤ C) (pos_le (pow_mono (go (dec_le r.k j)))))
  where
    -- a k above j would be too large for n's digits
    far : (p q m : ℤ) → pos 2 *ℤ p ≦ q → pos (2 ^ 52) *ℤ (q *ℤ c) ≦ m → m ≺ pos (2 ^ 53) *ℤ (p *ℤ c) → ⊥
    far p q m l g h = false_from (p ∷ q ∷ m ∷ c ∷ []) (L.le (mul_mono c (<ℤ→≤ℤ C) l) ∷ L.le g ∷ L.lt h ∷ []) (search quote depth 30) (omega arith)

    go : Dec (r.k ≤ j) → r.k ≤ j
    go (yes l) = l
    go (no l) =
        let above : suc j ≤ r.k = lt_of_not-le l in
        ⊎_elim (λ (e : r.k ≡ 0). omega arith)
        (λ g. absurd (far (pos (2 ^ j)) (pos (2 ^ r.k)) (absℤ n) (pos_le (le_trans (le_of_eq (sym (pow-succ' 2 j))) (pow_mono above))) g h))
        r.size

-- the same, from a bound of n
pub rounded_within : {R n c B : ℤ} (j : ℕ) → pos 0 ≺ c → Rounded R n c → Within n B → B ≺ pos (2 ^ 53) *ℤ (pos (2 ^ j) *ℤ c) → Within (pos 2 *ℤ (R *ℤ c -ℤ n)) (pos (2 ^ j) *ℤ c)
rounded_within j C r w h = rounded_absolute j C r (≤ℤ-<ℤ-trans (abs_le w) h)

-- the error is at most 2 ^ -53 of any B / c that is no less than n / c and than the least normal value, 2 ^ 52 units
relative_to : {R n c B : ℤ} → Rounded R n c → pos (2 ^ 52) *ℤ c ≦ B → absℤ n ≦ B → Within (pos (2 ^ 53) *ℤ (R *ℤ c -ℤ n)) B
relative_to {R} {n} {c} {B} r h g =
    within_le
    (subst (λ (v : ℤ). Within v (pos (2 ^ r.k) *ℤ c *ℤ pos (2 ^ 52))) (ring (R ∷ n ∷ c ∷ []) (search quote depth 30) tt) (within_mul (pos (2 ^ 52)) (pos_nonneg (2 ^ 52)) r.near))
    (≤ℤ-trans (≤ℤ-of-eq (*ℤ_comm (pos (2 ^ r.k) *ℤ c) (pos (2 ^ 52))))
    (⊎_elim (λ (e : r.k ≡ 0). subst (λ (j : ℕ). pos (2 ^ 52) *ℤ (pos (2 ^ j) *ℤ c) ≦ B) (sym e) (subst (λ (v : ℤ). pos (2 ^ 52) *ℤ v ≦ B) (sym (one-*ℤ c)) h)) (λ l. ≤ℤ-trans l g) r.size))

-- the error is at most 2 ^ -53 of n / c, or half of the least value; for any M that |n| is at most
pub rounded_relative : {R n c M : ℤ} → pos 0 ≺ c → Rounded R n c → absℤ n ≦ M → Within (pos (2 ^ 53) *ℤ (R *ℤ c -ℤ n)) (M +ℤ pos (2 ^ 52) *ℤ c)
rounded_relative {R} {n} {c} {M} C r h =
    relative_to r
    (le_from (c ∷ M ∷ []) (L.le (≤ℤ-trans (pos_nonneg (nat_abs n)) h) ∷ []) (search quote depth 30) (omega arith))
    (≤ℤ-trans h (le_from (c ∷ M ∷ []) (L.lt C ∷ []) (search quote depth 30) (omega arith)))

-- of a value that is not negative
pub rounded_relative_plus : {R n c : ℤ} → pos 0 ≺ c → Rounded R n c → pos 0 ≦ n → Within (pos (2 ^ 53) *ℤ (R *ℤ c -ℤ n)) (n +ℤ pos (2 ^ 52) *ℤ c)
rounded_relative_plus C r N = rounded_relative C r (≤ℤ-of-eq (nonneg_nat N))

-- the relative error of a value that is not subnormal
pub rounded_relative_normal : {R n c : ℤ} → Rounded R n c → pos (2 ^ 52) *ℤ c ≦ absℤ n → Within (pos (2 ^ 53) *ℤ (R *ℤ c -ℤ n)) (absℤ n)
rounded_relative_normal r h = relative_to r h (≤ℤ-of-eq refl)

-- |n / c| ≤ B: |R| ≤ 2 B + 1
pub rounded_size : {R n c B : ℤ} → pos 0 ≺ c → pos 0 ≦ B → Rounded R n c → Within n (B *ℤ c) → Within R (pos 2 *ℤ B +ℤ pos 1)
rounded_size {R} {n} {c} {B} C B0 r w =
    let e = rounded_relative C r (abs_le w) in
    let bc = mul_nonneg B0 (<ℤ→≤ℤ C) in
    let ρ = R ∷ n ∷ c ∷ B ∷ [] in
    within_cancel c C (record {
      low = le_from ρ (L.le e.low ∷ L.le w.low ∷ L.lt C ∷ L.le bc ∷ []) (search quote depth 30) (omega arith);
      high = le_from ρ (L.le e.high ∷ L.le w.high ∷ L.lt C ∷ L.le bc ∷ []) (search quote depth 30) (omega arith);
    })

-- the sign is kept
pub rounded_nonneg : {R n c : ℤ} → pos 0 ≺ c → Rounded R n c → pos 0 ≦ n → pos 0 ≦ R
rounded_nonneg {R} {n} {c} C r N =
    let e = rounded_relative_plus C r N in
    half (mul_cancel c (pos 0) (pos 2 *ℤ R +ℤ pos 1) C (le_from (R ∷ n ∷ c ∷ []) (L.le e.low ∷ L.le N ∷ []) (search quote depth 30) (omega arith)))
  where
    half : pos 0 ≦ pos 2 *ℤ R +ℤ pos 1 → pos 0 ≦ R
    half h = le_from (R ∷ []) (L.le h ∷ []) (search quote depth 30) (omega arith)

pub rounded_nonpos : {R n c : ℤ} → pos 0 ≺ c → Rounded R n c → n ≦ pos 0 → R ≦ pos 0
rounded_nonpos {R} {n} {c} C r N = subst (λ (v : ℤ). v ≦ pos 0) (neg_ℤ-neg_ℤ R) (negℤ_anti (rounded_nonneg C (rounded_neg r) (negℤ_anti N)))

-- ---- what `round` gives, in units of 2 ^ -1074

-- q is within a half of n / (c p), so q p is within half of p of n / c
multiple_near : (q p c n : ℕ) → (2 * n ≤ 2 * (q * (c * p)) + c * p) × (2 * (q * (c * p)) ≤ 2 * n + c * p) → Within (pos 2 *ℤ (pos (q * p) *ℤ pos c -ℤ pos n)) (pos p *ℤ pos c)
multiple_near q p c n h = let ρ = pos q ∷ pos p ∷ pos c ∷ pos n ∷ [] in record {
  low = le_from ρ (L.le (pos_le h.0) ∷ []) (search quote depth 30) (omega arith);
  high = le_from ρ (L.le (pos_le h.1) ∷ []) (search quote depth 30) (omega arith);
}

-- a / c rounded, in units, is lib.Ieee's `grid`
grid_rounded : (a c : ℕ) → 0 < c → Rounded (pos (grid binary64 a c)) (pos (a * 2 ^ 1074)) (pos c)
grid_rounded a c C = record { k = k; near = multiple_near (kept 53 n c) (2 ^ k) c n (closest_near n (c * 2 ^ k) (mul-pos C (pow_pos k))); size = ⊎_elim inl (λ l. inr (pos_le (full l))) (dropped (size (n / c))) }
  where
    n : ℕ
    n = a * 2 ^ 1074

    k : ℕ
    k = drop 53 n c

    dropped : (z : ℕ) → (z - 53 ≡ 0) ⊎ (52 + (z - 53) < z)
    dropped z = ⊎_elim inl (λ (l : 0 < z - 53). inr (omega arith)) (eq-zero-or-pos (z - 53))

    full : 52 + k < size (n / c) → 2 ^ 52 * (2 ^ k * c) ≤ n
    full l =
        le_trans (le_of_eq (sym (mul_assoc (2 ^ 52) (2 ^ k) c) ∙ ap (λ (v : ℕ). v * c) (sym (pow-add 2 52 k))))
        (le_trans (mul-le-mul_right c (size_reaches (n / c) (52 + k) l)) (div-mul-le_self n c))

rounded_signed : (s : Bool) {R n : ℕ} {c : ℤ} → Rounded (pos R) (pos n) c → Rounded (signed s R) (signed s n) c
rounded_signed false r = r
rounded_signed true r = rounded_neg r

grid_finite : (a c : ℕ) → 0 < c → a ≤ c * 2 ^ 1022 → grid binary64 a c < 2 ^ 2098
grid_finite a c C A =
    lt_of_le_of_lt (le_of_within (rounded_size {B = pos (2 ^ 2096)} (pos_lt C) (pos_nonneg (2 ^ 2096)) (grid_rounded a c C) (within_nat_abs {n = 2 ^ 2096 * c} large))) (lit< tt)
  where
    large : a * 2 ^ 1074 ≤ 2 ^ 2096 * c
    large = le_trans (mul-le-mul_right (2 ^ 1074) A) (le_of_eq (mul_assoc c (2 ^ 1022) (2 ^ 1074) ∙ mul_comm c (2 ^ 2096)))

-- up to 2 ^ 1022 in size nothing overflows
pub rounds_result : {x : Float} {n : ℤ} {c : ℕ} → Rounds x n c → nat_abs n ≤ c * 2 ^ 1022 → Result x (n *ℤ pos (2 ^ 1074)) (pos c)
rounds_result {x} {n} {c} h A =
    let s = h.sign in
    let a = h.mag in
    let v = units_val binary64 s (kept 53 (a * 2 ^ 1074) c) (drop 53 (a * 2 ^ 1074) c) (grid_finite a c h.den_pos (subst (λ (m : ℕ). m ≤ c * 2 ^ 1022) (sym (rounds_mag h)) A)) in
    record {
      R = signed s (grid binary64 a c);
      is = record { sign = s; mag = grid binary64 a c; has = subst (λ (y : Float). HasValue y s (grid binary64 a c) (2 ^ 1074)) (sym (h.same ∙ round_is binary64 s a c)) v; is = refl };
      rnd = subst (λ (m : ℤ). Rounded (signed s (grid binary64 a c)) m (pos c)) (sym (mul_signed_pos s a (2 ^ 1074)) ∙ ap (λ (m : ℤ). m *ℤ pos (2 ^ 1074)) h.val) (rounded_signed s (grid_rounded a c h.den_pos));
    }

-- a common factor of n and c is left out
pub result_cancel : {x : Float} {n c : ℤ} (u : ℤ) → pos 0 ≺ u → Result x (n *ℤ u) (c *ℤ u) → Result x n c
result_cancel u U r = record { R = r.R; is = r.is; rnd = rounded_cancel u U r.rnd }
