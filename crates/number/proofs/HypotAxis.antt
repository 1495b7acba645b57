-- `hypot_of` where one argument is zero: the magnitude of the other, exactly, as long as its square neither underflows nor overflows. Assumes nothing.
use Rattle.std.proofs.Common.{◌≡◌, ℕ, zero, suc, ◌+◌, ◌-◌, ◌*◌, ◌^◌, ◌<◌, ◌≤◌, Bool, true, false, ◌&&◌, T, ℤ, pos, negsuc, sym, refl, ap, ◌∙◌, subst, ap₂, le_trans, le_of_eq, lt_of_lt_of_le, lt_of_le_of_lt, mul-le-mul_right, mul_assoc, mul-le-mul, lt_of_mul-lt-mul_right, mul-le-mul_left, mul-lt-mul_of_pos_right, mul-pos, mul-one, mul_right_comm, le_of_mul-le-mul_right, arith, lit<, ltb→lt, pow_pos, pow_mono, pow-add, shl_lt}
use mathlib.Core.Bool.{false≢true}
use native.Mathlib.Nat.{eq_of_mul-eq-mul_right}
use native.Mathlib.Decide.{dec_le}
use lib.Ieee.{Float, nan, inf, fin, binary64, up, down, units, round, add, mul, le, lt, eq, fits}
use lib.Ieee.Fits.{down_pos, mul-fits, and_l, and_r}
use lib.Ieee.Exact.{HasValue, units_val}
use lib.Ieee.Nearest.{closest}
use lib.Ieee.Scale.{round_same}
use lib.Ieee.Positive.{positive, above_of_le, positive_of_value, values_of_le, first_pos}
use Rattle.number.specs.Exact.{zeroᶠ}
use Rattle.number.specs.Root.{root_of, sqrt_of, NearestWhole, plus_fin}
use Rattle.number.specs.Signs.{abs_of}
use Rattle.number.specs.Hypot.{hypot_of, square_least, square_end}
use Rattle.number.proofs.Basics.{pow_lt_says}
use Rattle.number.proofs.Tests.{not_zero}
use Rattle.number.proofs.RoundingLaws.{round_zero}
use Rattle.number.proofs.Units.{closest_near, round_at, value_unique}
use Rattle.number.proofs.Fields.{sqrt_units}
use Rattle.number.proofs.FloorRoot.{square_lt}
use Rattle.number.proofs.NearRoot.{two_pow_bit, root_units}
use Rattle.number.proofs.CloseRoot.{Scaled, scale_of_lem, sqrt_fits}
use Rattle.number.proofs.PlusLaws.{add_zero, square_plus, square_abs, square_at}

-- ---- a rounded square has the root that was squared
-- E is 2 ^ 52 or 2 ^ 53, the unit of the last digit of q * q, and c of those is the square, rounded
near_square : (q c p : ℕ) → p < 2 → 2 ^ 52 ≤ q → q < 2 ^ 53 → 2 ^ 52 * (2 ^ 52 * (1 + p)) ≤ q * q → q * q < 2 ^ 53 * (2 ^ 52 * (1 + p))
    → 2 * (q * q) ≤ 2 * (c * (2 ^ 52 * (1 + p))) + 2 ^ 52 * (1 + p) → 2 * (c * (2 ^ 52 * (1 + p))) ≤ 2 * (q * q) + 2 ^ 52 * (1 + p)
    → NearestWhole (c * (1 + p)) q × (2 ^ 52 ≤ c * (1 + p)) × (c * (1 + p) ≤ 2 ^ 54 - 2)
near_square q c zero P lo hi a b l h = (record { low = omega arith; high = omega arith }, omega arith, omega arith)
near_square q c (suc zero) P lo hi a b l h =
    let s : 2 ^ 52 < q = square_lt (2 ^ 52) q (omega arith) in
    let r : q ≤ 2 ^ 53 - 1 = omega arith in
    let t : q * q ≤ (2 ^ 53 - 1) * (2 ^ 53 - 1) = mul-le-mul r r in
    (record { low = omega arith; high = omega arith }, omega arith, omega arith)
near_square q c (suc (suc p)) P lo hi a b l h = absurd (omega arith)

-- The number is q * 2 ^ k units of 2 ^ -1074, and its square, rounded, is c * 2 ^ d units: the last digit of the square counts E in q * q, so d + 1074 is 52 + k + k + p.
module _ (q i p d : ℕ) (P : p < 2) (lo : 2 ^ 52 ≤ q) (hi : q < 2 ^ 53) (I : i ≤ 1058) (sum : d + 1074 ≡ 52 + (suc i + 474 + (suc i + 474)) + p)
    (from : 2 ^ 52 * (2 ^ 52 * (1 + p)) ≤ q * q) (to : q * q < 2 ^ 53 * (2 ^ 52 * (1 + p))) where
  abbrev k : ℕ
  k = suc i + 474

  abbrev E : ℕ
  E = 2 ^ 52 * (1 + p)

  abbrev c : ℕ
  c = closest (q * q) (2 ^ 52 * (1 + p))

  abbrev square : Float
  square = round binary64 false (q * 2 ^ (suc i + 474) * (q * 2 ^ (suc i + 474))) (2 ^ 1074 * 2 ^ 1074)

  good : NearestWhole (c * (1 + p)) q × (2 ^ 52 ≤ c * (1 + p)) × (c * (1 + p) ≤ 2 ^ 54 - 2)
  good = let h = closest_near (q * q) E (omega arith) in near_square q c p P lo hi from to h.0 h.1

  unit : 2 ^ d * 2 ^ 1074 ≡ E * (2 ^ k * 2 ^ k)
  unit =
      sym (pow-add 2 d 1074) ∙ ap (λ (z : ℕ). 2 ^ z) sum ∙ pow-add 2 (52 + (k + k)) p
      ∙ ap₂ ◌*◌ (pow-add 2 52 (k + k) ∙ ap (λ (z : ℕ). 2 ^ 52 * z) (pow-add 2 k k)) (two_pow_bit p P) ∙ mul_right_comm (2 ^ 52) (2 ^ k * 2 ^ k) (1 + p)

  rounded : square ≡ units binary64 false c d
  rounded = round_at false (q * 2 ^ k * (q * 2 ^ k)) (2 ^ 1074 * 2 ^ 1074) d (q * q) E (mul-pos (pow_pos 1074) (pow_pos 1074)) (omega arith) (same (2 ^ k) (2 ^ 1074) (2 ^ d) unit) from to
    where
      same : (K C D : ℕ) → D * C ≡ E * (K * K) → q * K * (q * K) * C * E ≡ q * q * (C * C * D)
      same K C D e = omega (arith, ap (λ (z : ℕ). q * q * C * z) e)

  small : c * 2 ^ d < 2 ^ 2098
  small = lt_of_mul-lt-mul_right (2 ^ 1074) (lt_of_le_of_lt (le_trans (le_of_eq (regroup (2 ^ k) (2 ^ d) (2 ^ 1074) unit)) (mul-le-mul_right (2 ^ 52 * (2 ^ k * 2 ^ k)) good.2))
      (lt_of_lt_of_le (mul-lt-mul_of_pos_right (lit< tt) (mul-pos (pow_pos 52) (mul-pos (pow_pos k) (pow_pos k)))) (mul-le-mul_left (2 ^ 54) (mul-le-mul_left (2 ^ 52) (mul-le-mul top top)))))
    where
      regroup : (K D C : ℕ) → D * C ≡ E * (K * K) → c * D * C ≡ c * (1 + p) * (2 ^ 52 * (K * K))
      regroup K D C e = omega (arith, ap (λ (z : ℕ). c * z) e)

      top : 2 ^ k ≤ 2 ^ 1533
      top = pow_mono {j = 1533} (omega arith)

  square_root : sqrt_of square ≡ units binary64 false q k
  square_root =
      let v : HasValue square false (c * 2 ^ d) (2 ^ 1074) = subst (λ (x : Float). HasValue x false (c * 2 ^ d) (2 ^ 1074)) (sym rounded) (units_val binary64 false c d small) in
      let C : 0 < c = first_pos c (1 + p) (lt_of_lt_of_le (pow_pos 52) good.1) in
      let s : T (positive square) = positive_of_value square (c * 2 ^ d) (2 ^ 1074) v (mul-pos C (pow_pos d)) in
      sqrt_units square (c * 2 ^ d) s v ∙ ap root_of scale ∙ root_units (c * (1 + p)) i q good.1 good.2 good.0
    where
      regroup : (D A B C J u : ℕ) → A * B ≡ C → B ≡ u * u → D * C ≡ E * (J * u * (J * u)) → c * D * A * B ≡ c * (1 + p) * 2 ^ 52 * (J * J) * B
      regroup D A B C J u e f g = omega (arith, ap (λ (z : ℕ). c * D * z) e, ap (λ (z : ℕ). c * (1 + p) * (J * J) * z) f, ap (λ (z : ℕ). c * z) g)

      scale : c * 2 ^ d * 2 ^ 126 ≡ c * (1 + p) * 2 ^ 52 * (2 ^ suc i * 2 ^ suc i)
      scale = eq_of_mul-eq-mul_right (2 ^ 948) (pow_pos 948) (c * 2 ^ d * 2 ^ 126) (c * (1 + p) * 2 ^ 52 * (2 ^ suc i * 2 ^ suc i))
          (regroup (2 ^ d) (2 ^ 126) (2 ^ 948) (2 ^ 1074) (2 ^ suc i) (2 ^ 474) refl refl (rw (pow-add 2 (suc i) 474) at unit))

-- ---- a number from 2 ^ -511 up to 2 ^ 512 is q * 2 ^ k units with a q of 53 digits and a k from 511 to 1533
record InRange (x : Float) : Type 0 where
  q : ℕ
  i : ℕ
  lo : 2 ^ 52 ≤ q
  hi : q < 2 ^ 53
  i_ge : 36 ≤ i
  i_le : i ≤ 1058
  is : HasValue x false (q * 2 ^ (suc i + 474)) (2 ^ 1074)

in_range : (m : ℕ) (e : ℤ) → T (fits binary64 (fin false m e)) → T (le square_least (fin false m e)) → T (lt (fin false m e) square_end) → InRange (fin false m e)
unfolding lt
in_range m e F a b = go (scale_of_lem (fin false m e) F s)
  where
    s : T (positive (fin false m e))
    s = above_of_le square_least (fin false m e) tt a

    at_least : (n : ℕ) → HasValue (fin false m e) false n (2 ^ 1074) → 2 ^ 563 ≤ n
    at_least n h = le_of_mul-le-mul_right {m = 2 ^ 563} {k = 2 ^ 511} (values_of_le square_least (fin false m e) 1 (2 ^ 511) n (2 ^ 1074) tt s (refl, refl) h a) (pow_pos 511)

    below : (n : ℕ) → HasValue (fin false m e) false n (2 ^ 1074) → n < 2 ^ 1586
    below n h =
        let l : m * up e < 2 ^ 512 * down e = subst (λ (z : ℕ). z < 2 ^ 512 * down e) (mul-one (m * up e)) (ltb→lt (m * up e * 1) (2 ^ 512 * down e) b) in
        lt_of_mul-lt-mul_right (down e) (subst (λ (z : ℕ). z < 2 ^ 1586 * down e) h.1 (subst (λ (z : ℕ). m * up e * 2 ^ 1074 < z) (mul_right_comm (2 ^ 512) (down e) (2 ^ 1074)) (mul-lt-mul_of_pos_right l (pow_pos 1074))))

    go : Scaled (fin false m e) → InRange (fin false m e)
    go S =
        let w = S.w in
        let g : 689 < 53 + (w + 52) = pow_lt_says 689 (53 + (w + 52)) (lt_of_le_of_lt (mul-le-mul_right (2 ^ 126) (at_least S.n S.is)) (subst (λ (z : ℕ). z < 2 ^ (53 + (w + 52))) (sym S.same) (shl_lt 53 (w + 52) S.c_lt))) in
        let l : 52 + (w + 52) < 1712 = pow_lt_says (52 + (w + 52)) 1712 (lt_of_le_of_lt (subst (λ (z : ℕ). z ≤ S.c * 2 ^ (w + 52)) (sym (pow-add 2 52 (w + 52))) (mul-le-mul_right (2 ^ (w + 52)) S.c_ge))
        (subst (λ (z : ℕ). z < 2 ^ 1712) S.same (mul-lt-mul_of_pos_right (below S.n S.is) (pow_pos 126)))) in
        let i = w - 549 in
        let f : w + 52 ≡ suc i + 474 + 126 = omega arith in
        let n : S.n ≡ S.c * 2 ^ (suc i + 474) =
        eq_of_mul-eq-mul_right (2 ^ 126) (pow_pos 126) S.n (S.c * 2 ^ (suc i + 474)) (S.same ∙ ap (λ (z : ℕ). S.c * z) (ap (λ (z : ℕ). 2 ^ z) f ∙ pow-add 2 (suc i + 474) 126) ∙ sym (mul_assoc S.c (2 ^ (suc i + 474)) (2 ^ 126))) in
        record { q = S.c; i = i; lo = S.c_ge; hi = S.c_lt; i_ge = omega arith; i_le = omega arith; is = subst (λ (z : ℕ). HasValue (fin false m e) false z (2 ^ 1074)) n S.is }

-- ---- the root of the square
root_of_square : (x : Float) → T (fits binary64 x) → InRange x → sqrt_of (mul binary64 x x) ≡ x
root_of_square x F R =
    let e : sqrt_of (mul binary64 x x) ≡ units binary64 false R.q k = ap sqrt_of (square_at x false (R.q * 2 ^ k) (2 ^ 1074) (pow_pos 1074) R.is) ∙ go (dec_le (2 ^ 105) (R.q * R.q)) in
    value_unique binary64 (sqrt_of (mul binary64 x x)) x false (R.q * 2 ^ k) (2 ^ 1074) (pow_pos 1074) (sqrt_fits (mul binary64 x x) (mul-fits binary64 x x)) F
    (subst (λ (v : Float). HasValue v false (R.q * 2 ^ k) (2 ^ 1074)) (sym e) (units_val binary64 false R.q k (lt_of_lt_of_le (shl_lt 53 k R.hi) (pow_mono {j = 2098} (omega (arith, R.i_le)))))) R.is
  where
    k : ℕ
    k = suc R.i + 474

    -- the square of q has 105 or 106 digits
    at : (p : ℕ) → p < 2 → 2 ^ 52 * (2 ^ 52 * (1 + p)) ≤ R.q * R.q → R.q * R.q < 2 ^ 53 * (2 ^ 52 * (1 + p)) → sqrt_of (round binary64 false (R.q * 2 ^ k * (R.q * 2 ^ k)) (2 ^ 1074 * 2 ^ 1074)) ≡ units binary64 false R.q k
    at p P from to = square_root R.q R.i p (52 + (k + k) + p - 1074) P R.lo R.hi R.i_le (omega (arith, R.i_ge)) from to

    go : Dec (2 ^ 105 ≤ R.q * R.q) → sqrt_of (round binary64 false (R.q * 2 ^ k * (R.q * 2 ^ k)) (2 ^ 1074 * 2 ^ 1074)) ≡ units binary64 false R.q k
    go (yes l) = let h : R.q ≤ 2 ^ 53 - 1 = omega (arith, R.hi) in at 1 (lit< tt) l (omega (arith, mul-le-mul h h))
    go (no l) = at 0 (lit< tt) (omega (arith, mul-le-mul R.lo R.lo)) (omega arith)

-- ---- a zero adds nothing
zero_square : (s : Bool) (e : ℤ) → mul binary64 (fin s 0 e) (fin s 0 e) ≡ zeroᶠ
unfolding mul
zero_square true e = round_same binary64 false (0 * up e * (0 * up e)) (down e * down e) 0 1 (mul-pos (down_pos e) (down_pos e)) (lit< tt) (omega arith) ∙ round_zero false 1 (lit< tt)
zero_square false e = round_same binary64 false (0 * up e * (0 * up e)) (down e * down e) 0 1 (mul-pos (down_pos e) (down_pos e)) (lit< tt) (omega arith) ∙ round_zero false 1 (lit< tt)

-- ---- the law, and two zeros
pub hypot_axis : (a : Float) (s : Bool) (d : ℤ) → T (fits binary64 a) → T (le square_least (abs_of a)) → T (lt (abs_of a) square_end) → hypot_of a (fin s 0 d) ≡ abs_of a
unfolding hypot_of abs_of fits le lt
hypot_axis nan s d F l h = absurd l
hypot_axis (inf t) s d F l h = absurd h
hypot_axis (fin t m e) s d F l h =
    ap₂ (λ (v w : Float). sqrt_of (add binary64 v w)) (square_abs (fin t m e)) (zero_square s d)
    ∙ ap sqrt_of (add_zero (square_plus (plus_fin m e)) (mul-fits binary64 (fin false m e) (fin false m e)))
    ∙ root_of_square (fin false m e) (abs_fits t m e F) (in_range m e (abs_fits t m e F) l h)
  where
    abs_fits : (t : Bool) (m : ℕ) (e : ℤ) → T (fits binary64 (fin t m e)) → T (fits binary64 (fin false m e))
    abs_fits t zero e F = F
    abs_fits t (suc m) e F = F

pub hypot_of_zeros : (s t : Bool) (d e : ℤ) → hypot_of (fin s 0 d) (fin t 0 e) ≡ zeroᶠ
unfolding hypot_of
hypot_of_zeros s t d e = ap₂ (λ (v w : Float). sqrt_of (add binary64 v w)) (zero_square s d) (zero_square t e)

-- the law as a test of b and of the size of a finds it
pub hypot_tested : (a b : Float) → T (fits binary64 a) → eq b zeroᶠ ≡ true → (le square_least (abs_of a) && lt (abs_of a) square_end) ≡ true → abs_of a ≡ hypot_of a b
unfolding eq
hypot_tested a nan F z h = absurd (false≢true z)
hypot_tested a (inf t) F z h = absurd (false≢true z)
hypot_tested a (fin t zero e) F z h =
    let l = subst T (sym h) tt in
    sym (hypot_axis a t e F (and_l (le square_least (abs_of a)) (lt (abs_of a) square_end) l) (and_r (le square_least (abs_of a)) (lt (abs_of a) square_end) l))
hypot_tested a (fin t (suc n) e) F z h = absurd (false≢true (sym (not_zero t n e) ∙ z))

-- ---- worked examples: 3, 4, 5; and past the two ends the law fails
example_three_four : hypot_of (fin false 3 (pos 0)) (fin true 1 (pos 2)) ≡ fin false 5 (pos 0)
unfolding hypot_of
example_three_four = refl

example_too_small : hypot_of (fin false 1 (negsuc 537)) zeroᶠ ≡ zeroᶠ
unfolding hypot_of
example_too_small = refl

example_too_large : hypot_of square_end zeroᶠ ≡ inf false
unfolding hypot_of
example_too_large = refl
