-- The meaning of `sqrt_of`: it is the finite double nearest to the exact root, and no other is as near. Beside it, IEEE 754's answers at the other arguments, and examples. Assumes nothing.
use Rattle.std.proofs.Common.{◌≡◌, ℕ, zero, suc, ◌+◌, ◌-◌, ◌*◌, ◌^◌, ◌<◌, ◌≤◌, Bool, true, false, cond, T, ◌⊎◌, ℤ, pos, negsuc, ◌+ℤ◌, neg_ℤ, refl, ap, ◌∙◌, subst, inl, inr, mul-le-mul_right, mul-le-mul, mul-lt-mul_of_pos_right, mul-pos, arith, pow_pos}
use native.Mathlib.Decide.{dec_le}
use lib.Dec.{eqb-suc-zero}
use lib.Ieee.{Float, nan, inf, fin, binary64, of_bits, fits}
use lib.Ieee.Positive.{positive}
use Rattle.algebra.specs.Int.{add_parts, pos_part_neg, neg_part_neg}
use Rattle.algebra.specs.Order.{◌≦◌, ◌≺◌, ord}
use Rattle.algebra.specs.Sign.{signed}
use Rattle.number.specs.Exact.{Is}
use Rattle.number.specs.Root.{sqrt_of, BelowRoot, AboveRoot, Nearer, NearestRoot}
use Rattle.number.proofs.Doubles.{multiple_or_small}
use Rattle.number.proofs.CloseRoot.{Close, sqrt_close, sqrt_fits}

-- ---- a number on one side of v is on that side of 2 √X where v is
below_root : (X v : ℕ) (w : ℤ) → w ≦ pos v → v * v < 4 * X → BelowRoot X w
below_root X v (pos u) h l = inr (let k : u ≤ v = omega ord in omega (ord, mul-le-mul k k))
below_root X v (negsuc u) h l = inl (record { lt = tt })

above_root : (X v : ℕ) (w : ℤ) → pos v ≦ w → 4 * X < v * v → AboveRoot X w
above_root X v (pos u) h l = (omega ord, let k : v ≤ u = omega ord in omega (ord, mul-le-mul k k))
above_root X v (negsuc u) h l = absurd h.le

-- ---- With q for suc p: √M is less than 1/2 from q, so √(M P P) is less than P / 2 from R, which is q P.
module _ (M p P : ℕ) (some : 0 < P) (low : suc p * suc p < M + suc p) (high : M ≤ suc p * suc p + suc p) where
  nearer_above : (Y : ℤ) → pos (suc (suc p) * P) ≦ Y → Nearer (M * (P * P)) (pos (suc p * P)) Y
  nearer_above Y h =
      let half : 4 * M < (suc p + suc (suc p)) * (suc p + suc (suc p)) = omega arith in
      inl (omega (ord, some), above_root (M * (P * P)) ((suc p + suc (suc p)) * P) (pos (suc p * P) +ℤ Y) (omega (ord, add_parts (pos (suc p * P)) Y)) (omega (arith, mul-lt-mul_of_pos_right half (mul-pos some some))))

  nearer_below : (Y : ℤ) → Y ≦ pos (p * P) → Nearer (M * (P * P)) (pos (suc p * P)) Y
  nearer_below Y h =
      let half : (p + suc p) * (p + suc p) < 4 * M = omega arith in
      inr (omega (ord, some), below_root (M * (P * P)) ((p + suc p) * P) (pos (suc p * P) +ℤ Y) (omega (ord, add_parts (pos (suc p * P)) Y)) (omega (arith, mul-lt-mul_of_pos_right half (mul-pos some some))))

  -- below 2 ^ 52 P the doubles are closer to each other than P, but √M is at least 2 ^ 52
  nearer_small : 2 ^ 52 ≤ suc p → 2 ^ 104 ≤ M → (Y : ℤ) → Y ≺ pos (2 ^ 52 * P) → Nearer (M * (P * P)) (pos (suc p * P)) Y
  nearer_small Q floor Y h = go (dec_le (2 ^ 52) p)
    where
      go : Dec (2 ^ 52 ≤ p) → Nearer (M * (P * P)) (pos (suc p * P)) Y
      go (yes l) = nearer_below Y (omega (ord, mul-le-mul_right P l))
      go (no l) =
          let e : suc p * P ≡ 2 ^ 52 * P = ap (λ (z : ℕ). z * P) (omega arith) in
          let v = 2 ^ 53 * P - 1 in
          let l' : suc v ≤ 2 ^ 53 * P = omega (arith, some) in
          inr (omega ord, below_root (M * (P * P)) v (pos (suc p * P) +ℤ Y) (omega (ord, add_parts (pos (suc p * P)) Y)) (omega (arith, mul-le-mul l' l', mul-le-mul_right (P * P) floor)))

  -- a double's size is a multiple of P, or below 2 ^ 52 P; either sign
  farther : 2 ^ 52 ≤ suc p → 2 ^ 104 ≤ M → (s : Bool) (n : ℕ) → ((b : ℕ) × (n ≡ b * P)) ⊎ (n < 2 ^ 52 * P) → (signed s n ≡ pos (suc p * P)) ⊎ Nearer (M * (P * P)) (pos (suc p * P)) (signed s n)
  farther Q floor true n m = inr (nearer_below (neg_ℤ (pos n)) (omega (ord, pos_part_neg (pos n), neg_part_neg (pos n))))
  farther Q floor false n (inr l) = inr (nearer_small Q floor (pos n) (omega ord))
  farther Q floor false n (inl (b, e)) = go (dec_le b p) (dec_le b (suc p))
    where
      go : Dec (b ≤ p) → Dec (b ≤ suc p) → (pos n ≡ pos (suc p * P)) ⊎ Nearer (M * (P * P)) (pos (suc p * P)) (pos n)
      go (yes l) d = inr (nearer_below (pos n) (omega (ord, mul-le-mul_right P l)))
      go (no l) (yes g) = inl (ap pos (e ∙ ap (λ (z : ℕ). z * P) (omega arith)))
      go (no l) (no g) = let h : suc (suc p) ≤ b = omega arith in inr (nearer_above (pos n) (omega (ord, mul-le-mul_right P h)))

-- ---- the theorem
pub sqrt_nearest : (x : Float) → T (fits binary64 x) → T (positive x) → NearestRoot x (sqrt_of x)
sqrt_nearest x F p = at (sqrt_close x F p)
  where
    at : Close x (sqrt_of x) → NearestRoot x (sqrt_of x)
    at C = record {
      n = C.n;
      R = C.q * 2 ^ C.k;
      x_is = record { sign = false; mag = C.n; has = C.x_is; is = refl };
      r_is = record { sign = false; mag = C.q * 2 ^ C.k; has = C.r_is; is = refl };
      r_fits = sqrt_fits x F;
      nearest = λ y Y G I. rw C.square (other C.q C.q_ge C.low C.high y Y G I);
    }
      where
        other : (q : ℕ) → 2 ^ 52 ≤ q → q * q < C.M + q → C.M ≤ q * q + q → (y : Float) (Y : ℤ) → T (fits binary64 y) → Is 1074 y Y → (Y ≡ pos (q * 2 ^ C.k)) ⊎ Nearer (C.M * (2 ^ C.k * 2 ^ C.k)) (pos (q * 2 ^ C.k)) Y
        other zero Q low high y Y G I = absurd (omega arith)
        other (suc p) Q low high y Y G I =
            subst (λ (Z : ℤ). (Z ≡ pos (suc p * 2 ^ C.k)) ⊎ Nearer (C.M * (2 ^ C.k * 2 ^ C.k)) (pos (suc p * 2 ^ C.k)) Z) I.is
            (farther C.M p (2 ^ C.k) (pow_pos C.k) low high Q C.floor I.sign I.mag (multiple_or_small y I.sign I.mag C.k G I.has))

-- ---- the other arguments
pub sqrt_of_nan : sqrt_of nan ≡ nan
unfolding sqrt_of
sqrt_of_nan = refl

pub sqrt_of_inf : (s : Bool) → sqrt_of (inf s) ≡ cond s nan (inf false)
unfolding sqrt_of
sqrt_of_inf s = refl

-- a zero keeps its sign
pub sqrt_of_zero : (s : Bool) (e : ℤ) → sqrt_of (fin s 0 e) ≡ fin s 0 e
unfolding sqrt_of
sqrt_of_zero s e = refl

pub sqrt_of_negative : (m : ℕ) (e : ℤ) → sqrt_of (fin true (suc m) e) ≡ nan
unfolding sqrt_of
sqrt_of_negative m e = rw (eqb-suc-zero m)

-- ---- worked examples: the definition computes

example_four : sqrt_of (of_bits binary64 0x4010_0000_0000_0000) ≡ of_bits binary64 0x4000_0000_0000_0000
unfolding sqrt_of of_bits
example_four = refl

example_two : sqrt_of (of_bits binary64 0x4000_0000_0000_0000) ≡ of_bits binary64 0x3ff6_a09e_667f_3bcd
unfolding sqrt_of of_bits
example_two = refl

example_least : sqrt_of (of_bits binary64 1) ≡ of_bits binary64 0x1e60_0000_0000_0000
unfolding sqrt_of of_bits
example_least = refl

example_largest : sqrt_of (of_bits binary64 0x7fef_ffff_ffff_ffff) ≡ of_bits binary64 0x5fef_ffff_ffff_ffff
unfolding sqrt_of of_bits
example_largest = refl
