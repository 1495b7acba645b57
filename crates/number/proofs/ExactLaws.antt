-- The operations on exact values: exact while the whole numbers stay within 2 ^ 53, and rounded once, in units of 2 ^ -1074, while nothing overflows. Assumes nothing.
use Rattle.std.proofs.Common.{◌≡◌, ℕ, ◌+◌, ◌*◌, ◌^◌, ◌<◌, ◌≤◌, Bool, false, ℤ, pos, ◌+ℤ◌, ◌-ℤ◌, ◌*ℤ◌, nat_abs, sym, refl, ap, ◌∙◌, subst, le_trans, le_of_eq, add-le-add, mul-le-mul_right, mul-le-mul, mul-pos, one-mul, mul-one, pow_pos, pow-add}
use lib.Ieee.{Float, fin, binary64, add, sub, mul, div}
use Rattle.algebra.specs.Int.{*ℤ-assoc}
use Rattle.algebra.specs.Order.{nat_abs_add, nat_abs_neg, nat_abs_mul, pos_lt}
use Rattle.algebra.specs.Sign.{signed}
use Rattle.algebra.proofs.SignedLaws.{nat_abs_signed, mul_signed_pos}
use Rattle.number.specs.Exact.{Is, Sized}
use Rattle.number.specs.Rounding.{Result}
use Rattle.number.proofs.Operations.{neg_is, rescale, add_rounds, mul_rounds, div_rounds, half_rounds}
use Rattle.number.proofs.RoundingLaws.{rounds_exact, rounds_result, result_cancel}

-- ---- exact

pub add_is : {k : ℕ} {x y : Float} {z w : ℤ} → Is k x z → Is k y w → k ≤ 1074 → nat_abs z + nat_abs w ≤ 2 ^ 53 → Is k (add binary64 x y) (z +ℤ w)
add_is {k} {z = z} {w = w} h g K l = rounds_exact k (add_rounds h g) K (le_trans (nat_abs_add z w) l)

pub sub_is : {k : ℕ} {x y : Float} {z w : ℤ} → Is k x z → Is k y w → k ≤ 1074 → nat_abs z + nat_abs w ≤ 2 ^ 53 → Is k (sub binary64 x y) (z -ℤ w)
unfolding sub
sub_is {w = w} h g K l = add_is h (neg_is g) K (rw (nat_abs_neg w) l)

pub mul_is : {j k : ℕ} {x y : Float} {z w : ℤ} → Is j x z → Is k y w → j + k ≤ 1074 → nat_abs z * nat_abs w ≤ 2 ^ 53 → Is (j + k) (mul binary64 x y) (z *ℤ w)
mul_is {j} {k} {z = z} {w = w} h g K l = rounds_exact (j + k) (mul_rounds h g) K (rw (nat_abs_mul z w) l)

-- x / 2
pub half_is : {k : ℕ} {x : Float} {z : ℤ} → Is k x z → k + 1 ≤ 1074 → nat_abs z ≤ 2 ^ 53 → Is (k + 1) (div binary64 x (fin false 1 (pos 1))) z
half_is {k} h K l = rounds_exact (k + 1) (half_rounds h) K l

-- with a bound on the size
pub add_sized : {k m n : ℕ} {x y : Float} {z w : ℤ} → Sized k m x z → Sized k n y w → k ≤ 1074 → m + n ≤ 2 ^ 53 → Sized k (m + n) (add binary64 x y) (z +ℤ w)
add_sized {z = z} {w = w} h g K l = let s = add-le-add h.near g.near in record { is = add_is h.is g.is K (le_trans s l); near = le_trans (nat_abs_add z w) s }

pub sub_sized : {k m n : ℕ} {x y : Float} {z w : ℤ} → Sized k m x z → Sized k n y w → k ≤ 1074 → m + n ≤ 2 ^ 53 → Sized k (m + n) (sub binary64 x y) (z -ℤ w)
unfolding sub
sub_sized {w = w} h g K l = add_sized h (record { is = neg_is g.is; near = rw (nat_abs_neg w) g.near }) K l

pub mul_sized : {j k m n : ℕ} {x y : Float} {z w : ℤ} → Sized j m x z → Sized k n y w → j + k ≤ 1074 → m * n ≤ 2 ^ 53 → Sized (j + k) (m * n) (mul binary64 x y) (z *ℤ w)
mul_sized {z = z} {w = w} h g K l = let s = mul-le-mul h.near g.near in record { is = mul_is h.is g.is K (le_trans s l); near = rw (nat_abs_mul z w) s }

-- ---- rounded once

pub add_result : {x y : Float} {z w : ℤ} → Is 1074 x z → Is 1074 y w → nat_abs z + nat_abs w ≤ 2 ^ 2096 → Result (add binary64 x y) (z +ℤ w) (pos 1)
add_result {z = z} {w = w} h g l = result_cancel (pos (2 ^ 1074)) (pos_lt (pow_pos 1074)) (rounds_result (add_rounds h g) (le_trans (nat_abs_add z w) l))

pub sub_result : {x y : Float} {z w : ℤ} → Is 1074 x z → Is 1074 y w → nat_abs z + nat_abs w ≤ 2 ^ 2096 → Result (sub binary64 x y) (z -ℤ w) (pos 1)
unfolding sub
sub_result {w = w} h g l = add_result h (neg_is g) (rw (nat_abs_neg w) l)

pub mul_result : {x y : Float} {z w : ℤ} → Is 1074 x z → Is 1074 y w → nat_abs z * nat_abs w ≤ 2 ^ 3170 → Result (mul binary64 x y) (z *ℤ w) (pos (2 ^ 1074))
mul_result {z = z} {w = w} h g l = result_cancel (pos (2 ^ 1074)) (pos_lt (pow_pos 1074)) (rounds_result (mul_rounds h g) (rw (nat_abs_mul z w) l))

-- z / 2 ^ (k + j) over ±b / 2 ^ k is ±z / (b * 2 ^ j), which is ±z * 2 ^ i / b units
pub div_result : {x y : Float} {z : ℤ} {b : ℕ} (k j i : ℕ) → i + j ≡ 1074 → (t : Bool) → Is (k + j) x z → Is k y (signed t b) → 0 < b → nat_abs z ≤ b * 2 ^ 1022 → Result (div binary64 x y) (signed t 1 *ℤ z *ℤ pos (2 ^ i)) (pos b)
div_result {x} {y} {z} {b} k j i e t h g B l =
    let divisor : Is (k + j) y (signed t (b * 2 ^ j)) = subst (Is (k + j) y) (mul_signed_pos t b (2 ^ j)) (rescale j g) in
    let same_size : nat_abs (signed t 1 *ℤ z) ≡ nat_abs z = nat_abs_mul (signed t 1) z ∙ ap (λ (n : ℕ). n * nat_abs z) (nat_abs_signed t 1) ∙ one-mul (nat_abs z) in
    let grow : b ≤ b * 2 ^ j = le_trans (le_of_eq (sym (mul-one b))) (mul-le-mul (le_of_eq refl) (pow_pos j)) in
    let split : signed t 1 *ℤ z *ℤ pos (2 ^ 1074) ≡ signed t 1 *ℤ z *ℤ pos (2 ^ i) *ℤ pos (2 ^ j) =
    ap (λ (n : ℕ). signed t 1 *ℤ z *ℤ pos (2 ^ n)) (sym e) ∙ ap (λ (n : ℕ). signed t 1 *ℤ z *ℤ pos n) (pow-add 2 i j) ∙ sym (*ℤ-assoc (signed t 1 *ℤ z) (pos (2 ^ i)) (pos (2 ^ j))) in
    result_cancel (pos (2 ^ j)) (pos_lt (pow_pos j))
    (subst (λ (n : ℤ). Result (div binary64 x y) n (pos (b * 2 ^ j))) split
    (rounds_result (div_rounds t h divisor (mul-pos B (pow_pos j))) (le_trans (le_of_eq same_size) (le_trans l (mul-le-mul_right (2 ^ 1022) grow)))))
