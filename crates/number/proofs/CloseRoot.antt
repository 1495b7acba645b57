-- How close `sqrt_of` is to the exact root of a number above zero: less than half a unit of its last digit. Assumes nothing.
use Rattle.std.proofs.Common.{◌≡◌, ℕ, zero, suc, ◌+◌, ◌-◌, ◌*◌, ◌/◌, ◌%◌, ◌^◌, ◌<◌, ◌≤◌, Bool, true, false, cond, T, eqb, leb, sym, refl, ap, ◌∙◌, subst, le_of_eq, lt_of_lt_of_le, le_of_suc-le-suc, lt_of_le_of_lt, lt_irrefl, mul-le-mul_right, zero-lt-suc, mul_assoc, mul-pos, arith, ltb→lt, pow_pos, pow_mono, pow-add, shl_lt, leb-false, leb-true}
use native.Mathlib.Nat.{mul-mul-mul_comm}
use lib.Ieee.{Float, nan, inf, fin, binary64, up, down, size, units, fits}
use lib.Ieee.Digits.{size-lt, size-le, size_reaches}
use lib.Ieee.Fits.{nan-fits, inf-fits, cond-fits}
use lib.Ieee.Exact.{HasValue, units_val}
use lib.Ieee.Positive.{positive, positive_of_value}
use Rattle.number.specs.Root.{floor_root, root_of, sqrt_of, NearestWhole}
use Rattle.number.proofs.Basics.{pow_lt_says}
use Rattle.number.proofs.Doubles.{Double, double}
use Rattle.number.proofs.FloorRoot.{IsRoot, floor_root_lem, square_lt}
use Rattle.number.proofs.NearRoot.{near_ge, near_lt, root_fits, root_units, even_power, parity_ge, parity_le}
use Rattle.number.proofs.Fields.{sqrt_units}

pub sqrt_fits : (x : Float) → T (fits binary64 x) → T (fits binary64 (sqrt_of x))
unfolding sqrt_of
sqrt_fits nan F = nan-fits binary64
sqrt_fits (inf s) F = cond-fits binary64 s nan (inf false) (nan-fits binary64) (inf-fits binary64 false)
sqrt_fits (fin s m e) F =
    let r = root_of (m * up e * 2 ^ 1200 / down e) in
    cond-fits binary64 (eqb m 0) (fin s m e) (cond s nan r) F (cond-fits binary64 s nan r (nan-fits binary64) (root_fits (m * up e * 2 ^ 1200 / down e)))

-- ---- the error

-- the whole number nearest to a root
near_exists : (c : ℕ) → 0 < c → (q : ℕ) × NearestWhole c q
near_exists c C = go (leb n (r * r + r)) refl
  where
    n : ℕ
    n = c * 2 ^ 52

    r : ℕ
    r = floor_root n

    h : IsRoot n r
    h = floor_root_lem n

    go : (b : Bool) → leb n (r * r + r) ≡ b → (q : ℕ) × NearestWhole c q
    go true e = let l : n ≤ r * r + r = leb-true n (r * r + r) e in (r, record { low = omega (arith, h.0, square_lt 1 (r + 1) (omega (arith, h.1))); high = l })
    go false e = let l : r * r + r < n = leb-false n (r * r + r) e in (r + 1, record { low = omega arith; high = omega (arith, h.1) })

-- x as n smallest values, and n * 2 ^ 126 as c * 2 ^ (w + 52) with a c of 53 digits
pub record Scaled (x : Float) : Type 0 where
  pub n : ℕ
  pub is : HasValue x false n (2 ^ 1074)
  pub c : ℕ
  pub w : ℕ
  pub c_ge : 2 ^ 52 ≤ c
  pub c_lt : c < 2 ^ 53
  pub w_ge : 2 ≤ w
  pub w_le : w ≤ 2119
  pub same : n * 2 ^ 126 ≡ c * 2 ^ (w + 52)

pub scale_of_lem : (x : Float) → T (fits binary64 x) → T (positive x) → Scaled x
scale_of_lem nan F p = absurd p
scale_of_lem (inf s) F p = absurd p
scale_of_lem (fin true m e) F p = absurd p
scale_of_lem (fin false m e) F p = go (double false m e F) (size m) refl
  where
    go : Double m e → (z : ℕ) → size m ≡ z → Scaled (fin false m e)
    go D zero f = absurd (lt_irrefl 0 (lt_of_lt_of_le (ltb→lt 0 m p) (le_of_suc-le-suc (subst (λ (z : ℕ). m < 2 ^ z) f (size-lt m)))))
    go D (suc z) f =
        let i = D.place in
        let h : suc z ≤ 53 = subst (λ (z : ℕ). z ≤ 53) f (size-le m 53 D.short) in
        let lo : 2 ^ z ≤ m = size_reaches m z (le_of_eq (sym f)) in
        let hi : m < 2 ^ suc z = subst (λ (z : ℕ). m < 2 ^ z) f (size-lt m) in
        let t : z + i < 2098 = pow_lt_says (z + i) 2098 (lt_of_le_of_lt (subst (λ (y : ℕ). y ≤ m * 2 ^ i) (sym (pow-add 2 z i)) (mul-le-mul_right (2 ^ i) lo)) D.small) in
        let u : z + (52 - z) ≡ 52 = omega arith in
        let v : suc z + (52 - z) ≡ 53 = omega arith in
        let w : i + 126 ≡ 52 - z + (i + z + 22 + 52) = omega arith in
        record {
          n = m * 2 ^ i;
          is = (refl, D.same);
          c = m * 2 ^ (52 - z);
          w = i + z + 22;
          c_ge = subst (λ (y : ℕ). y ≤ m * 2 ^ (52 - z)) (sym (pow-add 2 z (52 - z)) ∙ ap (λ (y : ℕ). 2 ^ y) u) (mul-le-mul_right (2 ^ (52 - z)) lo);
          c_lt = subst (λ (y : ℕ). m * 2 ^ (52 - z) < 2 ^ y) v (shl_lt (suc z) (52 - z) hi);
          w_ge = omega arith;
          w_le = omega arith;
          same =
              mul_assoc m (2 ^ i) (2 ^ 126)
              ∙ ap (λ (y : ℕ). m * y) (sym (pow-add 2 i 126) ∙ ap (λ (y : ℕ). 2 ^ y) w ∙ pow-add 2 (52 - z) (i + z + 22 + 52))
              ∙ sym (mul_assoc m (2 ^ (52 - z)) (2 ^ (i + z + 22 + 52)));
        }

-- r is q units of 2 ^ (k - 1074), with a q of 53 digits, and q is the whole number nearest to the root of x in those units: √M.
-- `floor` says that √M is no less than 2 ^ 52, so no double between two of those units is nearer.
pub record Close (x r : Float) : Type 0 where
  pub n : ℕ
  pub q : ℕ
  pub k : ℕ
  pub M : ℕ
  pub x_is : HasValue x false n (2 ^ 1074)
  pub r_is : HasValue r false (q * 2 ^ k) (2 ^ 1074)
  pub square : n * 2 ^ 1074 ≡ M * (2 ^ k * 2 ^ k)
  pub q_ge : 2 ^ 52 ≤ q
  pub q_lt : q < 2 ^ 53
  pub low : q * q < M + q
  pub high : M ≤ q * q + q
  pub floor : 2 ^ 104 ≤ M

-- M * 4 ^ j, with 2 ^ 948 = 4 ^ 474 more
lift : (M j : ℕ) → M * (2 ^ j * 2 ^ j) * 2 ^ 948 ≡ M * (2 ^ (j + 474) * 2 ^ (j + 474))
lift M j =
    mul_assoc M (2 ^ j * 2 ^ j) (2 ^ 948)
    ∙ ap (λ (y : ℕ). M * y) (mul-mul-mul_comm (2 ^ j) (2 ^ j) (2 ^ 474) (2 ^ 474) ∙ ap (λ (y : ℕ). y * y) (sym (pow-add 2 j 474)))

pub sqrt_close : (x : Float) → T (fits binary64 x) → T (positive x) → Close x (sqrt_of x)
sqrt_close x F p = at (scale_of_lem x F p)
  where
    at : Scaled x → Close x (sqrt_of x)
    at S = go (near_exists c' (lt_of_lt_of_le (zero-lt-suc (2 ^ 52 - 1)) ge)) (S.w / 2) refl
      where
        c' : ℕ
        c' = S.c * (1 + S.w % 2)

        ge : 2 ^ 52 ≤ S.c * (1 + S.w % 2)
        ge = parity_ge S.c (S.w % 2) (omega arith) S.c_ge

        lt' : S.c * (1 + S.w % 2) ≤ 2 ^ 54 - 2
        lt' = parity_le S.c (S.w % 2) (omega arith) S.c_lt

        go : (q : ℕ) × NearestWhole c' q → (j : ℕ) → S.w / 2 ≡ j → Close x (sqrt_of x)
        go N zero e = let a = S.w_ge in absurd (omega arith)
        go N (suc i) e =
            let q = N.0 in
            let k = suc i + 474 in
            let M = c' * 2 ^ 52 in
            let b = S.w_le in
            let f : S.n * 2 ^ 126 ≡ M * (2 ^ suc i * 2 ^ suc i) = S.same ∙ even_power S.c S.w ∙ ap (λ (y : ℕ). M * (2 ^ y * 2 ^ y)) e in
            let g : S.n * 2 ^ 1074 ≡ M * (2 ^ k * 2 ^ k) = sym (mul_assoc S.n (2 ^ 126) (2 ^ 948)) ∙ ap (λ (y : ℕ). y * 2 ^ 948) f ∙ lift M (suc i) in
            let Q : q < 2 ^ 53 = near_lt c' q lt' N.1 in
            let r : sqrt_of x ≡ units binary64 false q k = sqrt_units x S.n p S.is ∙ ap root_of f ∙ root_units c' i q ge lt' N.1 in
            let K : 53 + k ≤ 2098 = omega arith in
            record {
              n = S.n;
              q = q;
              k = k;
              M = M;
              x_is = S.is;
              r_is = subst (λ (v : Float). HasValue v false (q * 2 ^ k) (2 ^ 1074)) (sym r) (units_val binary64 false q k (lt_of_lt_of_le (shl_lt 53 k Q) (pow_mono K)));
              square = g;
              q_ge = near_ge c' q ge N.1;
              q_lt = Q;
              low = N.1.low;
              high = N.1.high;
              floor = mul-le-mul_right (2 ^ 52) ge;
            }

-- ---- above zero

pub sqrt_above : (x : Float) → T (fits binary64 x) → T (positive x) → T (positive (sqrt_of x))
sqrt_above x F p = let C = sqrt_close x F p in positive_of_value (sqrt_of x) (C.q * 2 ^ C.k) (2 ^ 1074) C.r_is (mul-pos (lt_of_lt_of_le (zero-lt-suc (2 ^ 52 - 1)) C.q_ge) (pow_pos C.k))
