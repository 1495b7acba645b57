-- Every operation on finite floats is its exact value rounded once, and the laws of exact values behind that. Assumes nothing.
use Rattle.std.proofs.Common.{◌≡◌, ℕ, zero, suc, ◌+◌, ◌-◌, ◌*◌, ◌%◌, ◌^◌, ◌<◌, ◌≤◌, Bool, true, false, cond, not, ◌&&◌, T, eqb, ltb, leb, [], ◌∷◌, ℤ, pos, negsuc, ◌+ℤ◌, ◌-ℤ◌, ◌*ℤ◌, neg_ℤ, nat_abs, sym, refl, ap, ◌∙◌, subst, ap₂, ⊎_elim, le_trans, le_of_eq, le_refl, lt_of_lt_of_le, le_of_suc-le-suc, lt_irrefl, mul_comm, eq-or-lt_of_le, mul-pos, one-mul, lt_of_not-le, zero-mul, mul-one, not-le_of_lt, arith, eqb→eq, leb→le, pow_pos, pow_mono, pow-add, le-ltb, lt-ltb, ne_eqb}
use native.Mathlib.Decide.{dec_le}
use lib.Pow.{pow-lt}
use lib.Ieee.{Float, nan, inf, fin, binary64, up, down, unlike, round, sum, add, sub, mul, div, neg, fits}
use lib.Ieee.Digits.{back}
use lib.Ieee.Fits.{down_pos, and_l, and_r}
use lib.Ieee.Positive.{first_pos}
use lib.Ieee.Scale.{round_same}
use Rattle.algebra.proofs.Quote.{quote, ring}
use Rattle.algebra.proofs.Lin.{eq, eq_from}
use Rattle.algebra.specs.Int.{one-*ℤ, *ℤ-assoc}
use Rattle.algebra.specs.Order.{pos_lt}
use Rattle.algebra.proofs.Mono.{mul_cancel_eq}
use Rattle.algebra.specs.Sign.{signed}
use Rattle.algebra.proofs.SignedLaws.{nat_abs_signed, neg_signed, mul_signed, mul_signed_pos, signed_cross, add_signed, add_unlike_lt, add_unlike_ge}
use Rattle.number.specs.Exact.{Is, Held, zeroᶠ}
use Rattle.number.specs.Rounding.{Rounds}

-- ---- `Is`, as one equation of whole numbers

-- ±m * 2 ^ e is z / 2 ^ k, multiplied out: 2 ^ e is up e / down e
abbrev pub Equation : ℕ → Float → ℤ → Type 0
Equation k nan z = ⊥
Equation k (inf s) z = ⊥
Equation k (fin s m e) z = signed s (m * up e) *ℤ pos (2 ^ k) ≡ z *ℤ pos (down e)

pub is→equation : {k : ℕ} {x : Float} {z : ℤ} → Is k x z → Equation k x z
is→equation {x = nan} h = h.has
is→equation {x = inf s} h = h.has
is→equation {k} {x = fin s m e} h =
    mul_signed_pos s (m * up e) (2 ^ k) ∙ ap₂ signed h.has.0 h.has.1
    ∙ sym (mul_signed_pos h.sign h.mag (down e)) ∙ ap (λ (t : ℤ). t *ℤ pos (down e)) h.is

pub equation→is : {k : ℕ} (x : Float) {z : ℤ} → Equation k x z → Is k x z
equation→is nan h = absurd h
equation→is (inf s) h = absurd h
equation→is {k} (fin s m e) {z} h = let c = signed_cross s (m * up e) (down e) (2 ^ k) z (down_pos e) h in record { sign = s; mag = nat_abs z; has = (refl, c.0); is = c.1 }

pub is_unique : {k : ℕ} {x : Float} {z w : ℤ} → Is k x z → Is k x w → z ≡ w
is_unique {k} {x} {z} {w} h g = at x (is→equation h) (is→equation g)
  where
    at : (x : Float) → Equation k x z → Equation k x w → z ≡ w
    at nan p q = elim p [ ]
    at (inf _) p q = elim p [ ]
    at (fin s m e) p q = mul_cancel_eq (pos (down e)) z w (pos_lt (down_pos e)) (sym p ∙ q)

-- z / 2 ^ k over a higher power of two
pub rescale : {k : ℕ} {x : Float} {z : ℤ} (j : ℕ) → Is k x z → Is (k + j) x (z *ℤ pos (2 ^ j))
rescale {k} {x} {z} j h = equation→is x (at x (is→equation h))
  where
    scale : (a p q z d : ℤ) → a *ℤ p ≡ z *ℤ d → a *ℤ (p *ℤ q) ≡ z *ℤ q *ℤ d
    scale a p q z d e = eq_from (a ∷ p ∷ q ∷ z ∷ d ∷ []) (eq (ap (λ (t : ℤ). t *ℤ q) e) ∷ []) (search quote depth 30) (omega arith)

    at : (x : Float) → Equation k x z → Equation (k + j) x (z *ℤ pos (2 ^ j))
    at nan p = elim p [ ]
    at (inf _) p = elim p [ ]
    at (fin s m e) p = rw (pow-add 2 k j) (scale (signed s (m * up e)) (pos (2 ^ k)) (pos (2 ^ j)) z (pos (down e)) p)

pub zero_is : (k : ℕ) → Is k zeroᶠ (pos 0)
zero_is k = record { sign = false; mag = 0; has = (refl, zero-mul (2 ^ k)); is = refl }

pub neg_is : {k : ℕ} {x : Float} {z : ℤ} → Is k x z → Is k (neg x) (neg_ℤ z)
unfolding neg
neg_is {k} {x} {z} h = equation→is (neg x) (at x (is→equation h))
  where
    minus : (a p z d : ℤ) → a *ℤ p ≡ z *ℤ d → neg_ℤ a *ℤ p ≡ neg_ℤ z *ℤ d
    minus a p z d e = eq_from (a ∷ p ∷ z ∷ d ∷ []) (eq e ∷ []) (search quote depth 30) (omega arith)

    at : (x : Float) → Equation k x z → Equation k (neg x) (neg_ℤ z)
    at nan p = elim p [ ]
    at (inf _) p = elim p [ ]
    at (fin s m e) p = rw (← neg_signed s (m * up e)) (minus (signed s (m * up e)) (pos (2 ^ k)) z (pos (down e)) p)

-- ---- every finite `f64` is a whole number of 2 ^ -1074

fits_down : (s : Bool) (m : ℕ) (e : ℤ) → T (fits binary64 (fin s m e)) → down e ≤ 2 ^ 1074
unfolding fits
fits_down s zero (pos k) F = pow_pos 1074
fits_down s zero (negsuc k) F = le_trans (le_of_eq (sym (one-mul (2 ^ suc k)) ∙ eqb→eq (1 * 2 ^ suc k) 1 F)) (pow_pos 1074)
fits_down s (suc m) e F =
    let digits = eqb (suc m % 2) 1 && ltb (suc m) (2 ^ 53) in
    let least = leb (down e) (2 ^ 1074) in
    leb→le (down e) (2 ^ 1074) (and_r digits least (and_l (digits && least) (ltb (suc m * up e) (2 ^ 1024 * down e)) F))

-- 2 ^ 1074 is a multiple of down e
down_divides : (e : ℤ) → down e ≤ 2 ^ 1074 → (n : ℕ) × (2 ^ 1074 ≡ n * down e)
down_divides (pos k) h = (2 ^ 1074, sym (mul-one (2 ^ 1074)))
down_divides (negsuc k) h =
    let l : suc k ≤ 1074 = le_of_suc-le-suc (lt_of_not-le (λ (g : 1075 ≤ suc k). not-le_of_lt (lt_of_lt_of_le (pow-lt (le_refl 1075)) (pow_mono g)) h)) in
    (2 ^ (1074 - suc k), ap (λ (j : ℕ). 2 ^ j) (sym (back 1074 (suc k) l)) ∙ pow-add 2 (1074 - suc k) (suc k))

pub finite_is : {x : Float} → Held x → (z : ℤ) × Is 1074 x z
finite_is {x = nan} h = absurd h.finite
finite_is {x = inf s} h = absurd h.finite
finite_is {x = fin s m e} h =
    let u = down_divides e (fits_down s m e h.fits) in
    let a = signed s (m * up e) in
    (a *ℤ pos u.0, equation→is (fin s m e) (ap (λ (n : ℕ). a *ℤ pos n) u.1 ∙ sym (*ℤ-assoc a (pos u.0) (pos (down e)))))

pub is_held : {k : ℕ} {x : Float} {z : ℤ} → Is k x z → T (fits binary64 x) → Held x
is_held {x = nan} h F = absurd h.has
is_held {x = inf s} h F = absurd h.has
is_held {x = fin s m e} h F = record { fits = F; finite = tt }

-- ---- the fraction that is rounded may be written otherwise
pub rounds_same : {x : Float} {n n' : ℤ} {c c' : ℕ} → Rounds x n c → 0 < c' → n *ℤ pos c' ≡ n' *ℤ pos c → Rounds x n' c'
rounds_same {x} {n} {n'} {c} {c'} h C e =
    let k = signed_cross h.sign h.mag c c' n' h.den_pos (ap (λ (t : ℤ). t *ℤ pos c') h.val ∙ e) in
    record { sign = h.sign; mag = nat_abs n'; den_pos = C; same = h.same ∙ round_same binary64 h.sign h.mag c (nat_abs n') c' h.den_pos C k.0; val = k.1 }

-- ---- sums

sum_like : (s : Bool) (a b c : ℕ) → sum binary64 s a s b c ≡ round binary64 s (a + b) c
unfolding sum
sum_like false a b c = refl
sum_like true a b c = refl

sum_unlike : (s : Bool) (a b c : ℕ) → sum binary64 s a (not s) b c ≡ cond (ltb a b) (round binary64 (not s) (b - a) c) (round binary64 (s && ltb b a) (a - b) c)
unfolding sum
sum_unlike false a b c = refl
sum_unlike true a b c = refl

-- a difference that is 0 has the sign +
sign_of_zero : (s : Bool) (a b : ℕ) → b ≤ a → signed (s && ltb b a) (a - b) ≡ signed s (a - b)
sign_of_zero false a b h = refl
sign_of_zero true a b h = ⊎_elim (λ (e : b ≡ a). let z : a - b ≡ 0 = omega arith in rw (le-ltb b a (le_of_eq (sym e)), z)) (λ (l : b < a). rw (lt-ltb b a l)) (eq-or-lt_of_le h)

rounds_like : (s : Bool) (a b c : ℕ) → 0 < c → Rounds (sum binary64 s a s b c) (signed s a +ℤ signed s b) c
rounds_like s a b c C = record { sign = s; mag = a + b; den_pos = C; same = sum_like s a b c; val = sym (add_signed s a b) }

rounds_unlike : (s : Bool) (a b c : ℕ) → 0 < c → Rounds (sum binary64 s a (not s) b c) (signed s a +ℤ signed (not s) b) c
rounds_unlike s a b c C = go (dec_le b a)
  where
    go : Dec (b ≤ a) → Rounds (sum binary64 s a (not s) b c) (signed s a +ℤ signed (not s) b) c
    go (yes h) = record { sign = s && ltb b a; mag = a - b; den_pos = C; same = sum_unlike s a b c ∙ rw (le-ltb a b h); val = sign_of_zero s a b h ∙ sym (add_unlike_ge s a b h) }
    go (no n) = let h : a < b = lt_of_not-le n in record { sign = not s; mag = b - a; den_pos = C; same = sum_unlike s a b c ∙ rw (lt-ltb a b h); val = sym (add_unlike_lt s a b h) }

sum_rounds : (s t : Bool) (a b c : ℕ) → 0 < c → Rounds (sum binary64 s a t b c) (signed s a +ℤ signed t b) c
sum_rounds false false = rounds_like false
sum_rounds true true = rounds_like true
sum_rounds false true = rounds_unlike false
sum_rounds true false = rounds_unlike true

pub add_rounds : {k : ℕ} {x y : Float} {z w : ℤ} → Is k x z → Is k y w → Rounds (add binary64 x y) (z +ℤ w) (2 ^ k)
unfolding add
add_rounds {k} {x} {y} {z} {w} h g = at x y (is→equation h) (is→equation g)
  where
    -- a / d and b / f over one denominator
    over_one : (a b z w d f p : ℤ) → a *ℤ p ≡ z *ℤ d → b *ℤ p ≡ w *ℤ f → (a *ℤ f +ℤ b *ℤ d) *ℤ p ≡ (z +ℤ w) *ℤ (d *ℤ f)
    over_one a b z w d f p h g = eq_from (a ∷ b ∷ z ∷ w ∷ d ∷ f ∷ p ∷ []) (eq (ap (λ (t : ℤ). t *ℤ f) h) ∷ eq (ap (λ (t : ℤ). t *ℤ d) g) ∷ []) (search quote depth 30) (omega arith)

    at : (x y : Float) → Equation k x z → Equation k y w → Rounds (add binary64 x y) (z +ℤ w) (2 ^ k)
    at nan _ h g = elim h [ ]
    at (inf _) _ h g = elim h [ ]
    at (fin s m d) nan h g = elim g [ ]
    at (fin s m d) (inf _) h g = elim g [ ]
    at (fin s m d) (fin t n f) h g =
        rounds_same (sum_rounds s t (m * up d * down f) (n * up f * down d) (down d * down f) (mul-pos (down_pos d) (down_pos f))) (pow_pos k)
        (ap (λ (v : ℤ). v *ℤ pos (2 ^ k)) (sym (ap₂ ◌+ℤ◌ (mul_signed_pos s (m * up d) (down f)) (mul_signed_pos t (n * up f) (down d))))
        ∙ over_one (signed s (m * up d)) (signed t (n * up f)) z w (pos (down d)) (pos (down f)) (pos (2 ^ k)) h g)

pub sub_rounds : {k : ℕ} {x y : Float} {z w : ℤ} → Is k x z → Is k y w → Rounds (sub binary64 x y) (z -ℤ w) (2 ^ k)
unfolding sub
sub_rounds h g = add_rounds h (neg_is g)

-- ---- products and quotients

pub mul_rounds : {j k : ℕ} {x y : Float} {z w : ℤ} → Is j x z → Is k y w → Rounds (mul binary64 x y) (z *ℤ w) (2 ^ (j + k))
unfolding mul
mul_rounds {j} {k} {x} {y} {z} {w} h g = at x y (is→equation h) (is→equation g)
  where
    swap : (a b p q : ℤ) → a *ℤ b *ℤ (p *ℤ q) ≡ a *ℤ p *ℤ (b *ℤ q)
    swap a b p q = ring (a ∷ b ∷ p ∷ q ∷ []) (search quote depth 30) tt

    at : (x y : Float) → Equation j x z → Equation k y w → Rounds (mul binary64 x y) (z *ℤ w) (2 ^ (j + k))
    at nan _ h g = elim h [ ]
    at (inf _) _ h g = elim h [ ]
    at (fin s m d) nan h g = elim g [ ]
    at (fin s m d) (inf _) h g = elim g [ ]
    at (fin s m d) (fin t n f) h g =
        let a = signed s (m * up d) in
        let b = signed t (n * up f) in
        rounds_same (record { sign = unlike s t; mag = m * up d * (n * up f); den_pos = mul-pos (down_pos d) (down_pos f); same = refl; val = sym (mul_signed s t (m * up d) (n * up f)) }) (pow_pos (j + k))
        (ap (λ (p : ℕ). a *ℤ b *ℤ pos p) (pow-add 2 j k) ∙ swap a b (pos (2 ^ j)) (pos (2 ^ k)) ∙ ap₂ ◌*ℤ◌ h g ∙ swap z (pos (down d)) w (pos (down f)))

-- the divisor is ±b / 2 ^ k, and its sign goes to the dividend
pub div_rounds : {k : ℕ} {x y : Float} {z : ℤ} (t : Bool) {b : ℕ} → Is k x z → Is k y (signed t b) → 0 < b → Rounds (div binary64 x y) (signed t 1 *ℤ z) b
unfolding div
div_rounds {k} {x} {y} {z} t {b} h g B = at x y (is→equation h) (is→equation g)
  where
    unit : (s : Bool) (n : ℕ) → signed s n ≡ signed s 1 *ℤ pos n
    unit s n = ap (signed s) (sym (one-mul n)) ∙ sym (mul_signed_pos s 1 n)

    unit_square : (s : Bool) → signed s 1 *ℤ signed s 1 ≡ pos 1
    unit_square false = refl
    unit_square true = refl

    -- the fractions multiplied out, where i and j are each 1 or -1
    over : (a i j z n b d f p : ℤ) → i *ℤ i ≡ pos 1 → j *ℤ j ≡ pos 1 → a *ℤ p ≡ z *ℤ d → i *ℤ n *ℤ p ≡ j *ℤ b *ℤ f → a *ℤ (i *ℤ f) *ℤ b ≡ j *ℤ z *ℤ (n *ℤ d)
    over a i j z n b d f p ii jj h g =
        eq_from (a ∷ i ∷ j ∷ z ∷ n ∷ b ∷ d ∷ f ∷ p ∷ [])
        (eq (ap (λ (v : ℤ). v *ℤ (a *ℤ i *ℤ f *ℤ b)) jj) ∷ eq (ap (λ (v : ℤ). v *ℤ (a *ℤ i *ℤ j)) g) ∷ eq (ap (λ (v : ℤ). v *ℤ (a *ℤ p *ℤ j *ℤ n)) ii) ∷ eq (ap (λ (v : ℤ). v *ℤ (j *ℤ n)) h) ∷ [])
        (search quote depth 30) (omega arith)

    at : (x y : Float) → Equation k x z → Equation k y (signed t b) → Rounds (div binary64 x y) (signed t 1 *ℤ z) b
    at nan _ h g = elim h [ ]
    at (inf _) _ h g = elim h [ ]
    at (fin s m d) nan h g = elim g [ ]
    at (fin s m d) (inf _) h g = elim g [ ]
    at (fin s m d) (fin r n f) h g =
        let size : n * up f * 2 ^ k ≡ b * down f = (signed_cross r (n * up f) (down f) (2 ^ k) (signed t b) (down_pos f) g).0 ∙ ap (λ (v : ℕ). v * down f) (nat_abs_signed t b) in
        let some : 0 < n * up f = first_pos (n * up f) (2 ^ k) (subst (λ (v : ℕ). 0 < v) (sym size) (mul-pos B (down_pos f))) in
        let N : n ≡ 0 → ⊥ = λ e. lt_irrefl 0 (subst (λ (v : ℕ). 0 < v) e (first_pos n (up f) some)) in
        rounds_same (record { sign = unlike s r; mag = m * up d * down f; den_pos = mul-pos some (down_pos d); same = rw (ne_eqb n 0 N); val = sym (mul_signed s r (m * up d) (down f)) }) B
        (ap (λ (v : ℤ). signed s (m * up d) *ℤ v *ℤ pos b) (unit r (down f))
        ∙ over (signed s (m * up d)) (signed r 1) (signed t 1) z (pos (n * up f)) (pos b) (pos (down d)) (pos (down f)) (pos (2 ^ k)) (unit_square r) (unit_square t) h
        (ap (λ (v : ℤ). v *ℤ pos (2 ^ k)) (sym (unit r (n * up f))) ∙ g ∙ ap (λ (v : ℤ). v *ℤ pos (down f)) (unit t b)))

-- x / 2
pub half_rounds : {k : ℕ} {x : Float} {z : ℤ} → Is k x z → Rounds (div binary64 x (fin false 1 (pos 1))) z (2 ^ (k + 1))
half_rounds {k} {x} {z} h = rw (one-*ℤ z) at (div_rounds false h two (pow_pos (k + 1)))
  where
    two : Is k (fin false 1 (pos 1)) (pos (2 ^ (k + 1)))
    two = equation→is (fin false 1 (pos 1)) (ap pos (mul_comm 2 (2 ^ k) ∙ sym (pow-add 2 k 1) ∙ sym (mul-one (2 ^ (k + 1)))))
