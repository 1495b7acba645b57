-- What `fits binary64` says of a number, in units of 2 ^ -1074, the smallest double. Assumes nothing.
use Rattle.std.proofs.Common.{◌≡◌, ℕ, zero, suc, ◌+◌, ◌-◌, ◌*◌, ◌%◌, ◌^◌, ◌<◌, ◌≤◌, Bool, ◌&&◌, T, eqb, ltb, leb, ◌⊎◌, ℤ, pos, negsuc, sym, refl, ap, ◌∙◌, subst, inl, inr, le_trans, mul-le-mul_right, mul_assoc, lt_of_mul-lt-mul_right, mul-lt-mul_of_pos_right, mul-pos, one-mul, zero-mul, mul-one, mul_right_comm, arith, eqb→eq, ltb→lt, leb→le, pow_pos, pow_mono, pow-add}
use native.Mathlib.Nat.{pow-succ', eq_of_mul-eq-mul_right}
use native.Mathlib.Decide.{dec_le}
use lib.Ieee.{Float, nan, inf, fin, binary64, up, down, round, fits}
use lib.Ieee.Digits.{back}
use lib.Ieee.Fits.{up_pos, down_pos, round-fits, and_l, and_r}
use lib.Ieee.Exact.{HasValue, round_exact}
use Rattle.number.proofs.Basics.{pow_le_says}
use Rattle.number.proofs.Units.{value_unique}

-- m * 2 ^ e is m * 2 ^ place units, m has at most 53 digits, and the number is below 2 ^ 1024
pub record Double (m : ℕ) (e : ℤ) : Type 0 where
  pub place : ℕ
  pub same : m * up e * 2 ^ 1074 ≡ m * 2 ^ place * down e
  pub short : m < 2 ^ 53
  pub small : m * 2 ^ place < 2 ^ 2098

in_units : (e : ℤ) → down e ≤ 2 ^ 1074 → (i : ℕ) × (up e * 2 ^ 1074 ≡ 2 ^ i * down e)
in_units (pos j) h = (j + 1074, sym (pow-add 2 j 1074) ∙ sym (mul-one (2 ^ (j + 1074))))
in_units (negsuc j) h =
    (1074 - suc j, one-mul (2 ^ 1074) ∙ ap (λ (i : ℕ). 2 ^ i) (sym (back 1074 (suc j) (pow_le_says (suc j) 1074 h))) ∙ pow-add 2 (1074 - suc j) (suc j))

double_of : (m : ℕ) (e : ℤ) → down e ≤ 2 ^ 1074 → m < 2 ^ 53 → m * up e < 2 ^ 1024 * down e → Double m e
double_of m e h s l =
    let u = in_units e h in
    let v : m * up e * 2 ^ 1074 ≡ m * 2 ^ u.0 * down e = mul_assoc m (up e) (2 ^ 1074) ∙ ap (λ (z : ℕ). m * z) u.1 ∙ sym (mul_assoc m (2 ^ u.0) (down e)) in
    record {
      place = u.0;
      same = v;
      short = s;
      small = lt_of_mul-lt-mul_right (down e) (subst (λ (z : ℕ). z < 2 ^ 2098 * down e) v (subst (λ (z : ℕ). m * up e * 2 ^ 1074 < z) (mul_right_comm (2 ^ 1024) (down e) (2 ^ 1074)) (mul-lt-mul_of_pos_right l (pow_pos 1074))));
    }

pub double : (s : Bool) (m : ℕ) (e : ℤ) → T (fits binary64 (fin s m e)) → Double m e
unfolding fits
double s zero e F =
    let one : up e * down e ≡ 1 = eqb→eq (up e * down e) 1 F in
    let d : down e ≤ 1 = subst (λ (z : ℕ). z ≤ 1) (one-mul (down e)) (subst (λ (z : ℕ). 1 * down e ≤ z) one (mul-le-mul_right (down e) (up_pos e))) in
    double_of 0 e (le_trans d (pow_pos 1074)) (pow_pos 53) (subst (λ (z : ℕ). z < 2 ^ 1024 * down e) (sym (zero-mul (up e))) (mul-pos (pow_pos 1024) (down_pos e)))
double s (suc m) e F =
    let a = eqb (suc m % 2) 1 in
    let b = ltb (suc m) (2 ^ 53) in
    let c = leb (down e) (2 ^ 1074) in
    let d = ltb (suc m * up e) (2 ^ 1024 * down e) in
    let abc : T (a && b && c) = and_l (a && b && c) d F in
    double_of (suc m) e (leb→le (down e) (2 ^ 1074) (and_r (a && b) c abc)) (ltb→lt (suc m) (2 ^ 53) (and_r a b (and_l (a && b) c abc))) (ltb→lt (suc m * up e) (2 ^ 1024 * down e) (and_r (a && b && c) d F))

-- a double of n units is a multiple of 2 ^ k units, or below 2 ^ (52 + k) units: it has at most 53 digits
pub multiple_or_small : (y : Float) (s : Bool) (n k : ℕ) → T (fits binary64 y) → HasValue y s n (2 ^ 1074) → ((p : ℕ) × (n ≡ p * 2 ^ k)) ⊎ (n < 2 ^ 52 * 2 ^ k)
multiple_or_small nan s n k F h = absurd h
multiple_or_small (inf t) s n k F h = absurd h
multiple_or_small (fin t m e) s n k F h = at (double t m e F)
  where
    at : Double m e → ((p : ℕ) × (n ≡ p * 2 ^ k)) ⊎ (n < 2 ^ 52 * 2 ^ k)
    at D = go (dec_le k D.place)
      where
        is : n ≡ m * 2 ^ D.place
        is = eq_of_mul-eq-mul_right (down e) (down_pos e) n (m * 2 ^ D.place) (sym h.1 ∙ D.same)

        double_le : D.place < k → 2 * 2 ^ D.place ≤ 2 ^ k
        double_le l = subst (λ (z : ℕ). z ≤ 2 ^ k) (pow-succ' 2 D.place) (pow_mono l)

        go : Dec (k ≤ D.place) → ((p : ℕ) × (n ≡ p * 2 ^ k)) ⊎ (n < 2 ^ 52 * 2 ^ k)
        go (yes l) = inl (m * 2 ^ (D.place - k), is ∙ ap (λ (z : ℕ). m * z) (ap (λ (z : ℕ). 2 ^ z) (sym (back D.place k l)) ∙ pow-add 2 (D.place - k) k) ∙ sym (mul_assoc m (2 ^ (D.place - k)) (2 ^ k)))
        go (no g) = inr (omega (arith, is, mul-lt-mul_of_pos_right D.short (pow_pos D.place), double_le (omega arith)))

-- a double is its own rounded value
pub round_fixed : (s : Bool) (m : ℕ) (e : ℤ) → T (fits binary64 (fin s m e)) → round binary64 s (m * up e) (down e) ≡ fin s m e
round_fixed s m e F =
    let D = double s m e F in
    value_unique binary64 (round binary64 s (m * up e) (down e)) (fin s m e) s (m * up e) (down e) (down_pos e) (round-fits binary64 s (m * up e) (down e)) F
    (round_exact binary64 s (m * up e) (down e) m D.place (down_pos e) D.short D.small D.same) (refl, refl)
