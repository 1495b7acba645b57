-- What the operations on ℤ give on a sign with a magnitude, `signed s m`. Assumes nothing.
use Rattle.std.specs.Prelude.{◌≡◌, refl, Bool, true, false, not, ◌&&◌, ◌||◌, ℕ, ◌+◌, ◌*◌, ◌-◌, ◌<◌, ◌≤◌, T, eqb, ℤ, pos, negsuc, neg_ℤ, nat_abs, ◌+ℤ◌, ◌*ℤ◌}
use Rattle.std.proofs.Common.{sym, ◌∙◌, ap, arith, eqb→eq, ltb→lt, lt→ltb}
use Rattle.std.specs.Bool.{beq}
use Rattle.std.proofs.Math.IntN.{neg_ℤ-neg_ℤ, *ℤ_comm}
use Rattle.std.specs.Float.Ieee.{unlike, below, level}
use Rattle.std.specs.Float.Ieee.Fits.{and_l, and_r, and_i, eq→eqb}
use Rattle.algebra.specs.Int.{pos_part, neg_part, parts_eq, add_parts, pos_part_neg, neg_part_neg, negℤ_is, *ℤ-assoc}
use Rattle.algebra.specs.Order.{◌≺◌, nat_abs_neg, nat_abs_mul, lt_parts, parts_lt, pos_lt}
use Rattle.algebra.proofs.Mono.{mul_cancel_eq}
use Rattle.algebra.specs.Sign.{signed, sign}

pub signed_of_sign : (z : ℤ) → signed (sign z) (nat_abs z) ≡ z
signed_of_sign (pos n) = refl
signed_of_sign (negsuc n) = refl

pub nat_abs_signed : (s : Bool) (m : ℕ) → nat_abs (signed s m) ≡ m
nat_abs_signed false m = refl
nat_abs_signed true m = nat_abs_neg (pos m)

pub neg_signed : (s : Bool) (m : ℕ) → neg_ℤ (signed s m) ≡ signed (not s) m
neg_signed false m = refl
neg_signed true m = neg_ℤ-neg_ℤ (pos m)

neg_mul : (x y : ℤ) → neg_ℤ x *ℤ y ≡ neg_ℤ (x *ℤ y)
neg_mul x y = ap (λ t. t *ℤ y) (negℤ_is x) ∙ *ℤ-assoc (negsuc 0) x y ∙ sym (negℤ_is (x *ℤ y))

mul_neg : (x y : ℤ) → x *ℤ neg_ℤ y ≡ neg_ℤ (x *ℤ y)
mul_neg x y = *ℤ_comm x (neg_ℤ y) ∙ neg_mul y x ∙ ap neg_ℤ (*ℤ_comm y x)

pub mul_signed : (s t : Bool) (m n : ℕ) → signed s m *ℤ signed t n ≡ signed (unlike s t) (m * n)
mul_signed false false m n = refl
mul_signed false true m n = mul_neg (pos m) (pos n)
mul_signed true false m n = neg_mul (pos m) (pos n)
mul_signed true true m n = neg_mul (pos m) (neg_ℤ (pos n)) ∙ ap neg_ℤ (mul_neg (pos m) (pos n)) ∙ neg_ℤ-neg_ℤ (pos (m * n))

pub mul_signed_pos : (s : Bool) (m n : ℕ) → signed s m *ℤ pos n ≡ signed s (m * n)
mul_signed_pos false m n = refl
mul_signed_pos true m n = neg_mul (pos m) (pos n)

-- equal fractions, ±a / p and z / q: the same in size, and z has the sign, unless it is 0, which has either
pub signed_cross : (s : Bool) (a p q : ℕ) (z : ℤ) → 0 < p → signed s a *ℤ pos q ≡ z *ℤ pos p → (a * q ≡ nat_abs z * p) × (signed s (nat_abs z) ≡ z)
signed_cross s a p q z h e =
    let size : a * q ≡ nat_abs z * p = ap (λ (t : ℕ). t * q) (sym (nat_abs_signed s a)) ∙ sym (nat_abs_mul (signed s a) (pos q)) ∙ ap nat_abs e ∙ nat_abs_mul z (pos p) in
    (size, mul_cancel_eq (pos p) (signed s (nat_abs z)) z (pos_lt h) (mul_signed_pos s (nat_abs z) p ∙ ap (signed s) (sym size) ∙ sym (mul_signed_pos s a q) ∙ e))

-- the sum of two of one sign, and of two of unlike signs: the three cases of lib.Ieee's `sum`
pub add_signed : (s : Bool) (m n : ℕ) → signed s m +ℤ signed s n ≡ signed s (m + n)
add_signed false m n = refl
add_signed true m n = parts_eq (signed true m +ℤ signed true n) (signed true (m + n))
    (omega (arith, add_parts (signed true m) (signed true n), pos_part_neg (pos m), neg_part_neg (pos m), pos_part_neg (pos n), neg_part_neg (pos n), pos_part_neg (pos (m + n)), neg_part_neg (pos (m + n))))

pub add_unlike_lt : (s : Bool) (m n : ℕ) → m < n → signed s m +ℤ signed (not s) n ≡ signed (not s) (n - m)
add_unlike_lt false m n h = parts_eq (pos m +ℤ signed true n) (signed true (n - m))
    (omega (arith, add_parts (pos m) (signed true n), pos_part_neg (pos n), neg_part_neg (pos n), pos_part_neg (pos (n - m)), neg_part_neg (pos (n - m))))
add_unlike_lt true m n h = parts_eq (signed true m +ℤ pos n) (pos (n - m))
    (omega (arith, add_parts (signed true m) (pos n), pos_part_neg (pos m), neg_part_neg (pos m)))

pub add_unlike_ge : (s : Bool) (m n : ℕ) → n ≤ m → signed s m +ℤ signed (not s) n ≡ signed s (m - n)
add_unlike_ge false m n h = parts_eq (pos m +ℤ signed true n) (pos (m - n))
    (omega (arith, add_parts (pos m) (signed true n), pos_part_neg (pos n), neg_part_neg (pos n)))
add_unlike_ge true m n h = parts_eq (signed true m +ℤ pos n) (signed true (m - n))
    (omega (arith, add_parts (signed true m) (pos n), pos_part_neg (pos m), neg_part_neg (pos m), pos_part_neg (pos (m - n)), neg_part_neg (pos (m - n))))

-- the order of two floats' numerators over one denominator: lib.Ieee's `below`
pub below_signed : (s t : Bool) (a b : ℕ) → T (below s a t b) → signed s a ≺ signed t b
below_signed false false a b h = parts_lt (omega (arith, ltb→lt a b h))
below_signed false true a b h = absurd h
below_signed true false a b h = parts_lt (omega (arith, ltb→lt 0 (a + b) h, pos_part_neg (pos a), neg_part_neg (pos a)))
below_signed true true a b h = parts_lt (omega (arith, ltb→lt b a h, pos_part_neg (pos a), neg_part_neg (pos a), pos_part_neg (pos b), neg_part_neg (pos b)))

pub signed_below : (s t : Bool) (a b : ℕ) → signed s a ≺ signed t b → T (below s a t b)
signed_below false false a b h = lt→ltb a b (omega (arith, lt_parts h))
signed_below false true a b h = absurd (omega (arith, lt_parts h, pos_part_neg (pos b), neg_part_neg (pos b)))
signed_below true false a b h = lt→ltb 0 (a + b) (omega (arith, lt_parts h, pos_part_neg (pos a), neg_part_neg (pos a)))
signed_below true true a b h = lt→ltb b a (omega (arith, lt_parts h, pos_part_neg (pos a), neg_part_neg (pos a), pos_part_neg (pos b), neg_part_neg (pos b)))

-- and their equality: lib.Ieee's `level`
both_zero : (a b : ℕ) → T (eqb a b && eqb a 0) → 0 ≡ b
both_zero a b h = sym (eqb→eq a 0 (and_r (eqb a b) (eqb a 0) h)) ∙ eqb→eq a b (and_l (eqb a b) (eqb a 0) h)

pub level_signed : (s t : Bool) (a b : ℕ) → T (level s a t b) → signed s a ≡ signed t b
level_signed false false a b h = ap pos (eqb→eq a b (and_l (eqb a b) true h))
level_signed true true a b h = ap (signed true) (eqb→eq a b (and_l (eqb a b) true h))
level_signed false true a b h = ap pos (eqb→eq a 0 (and_r (eqb a b) (eqb a 0) h)) ∙ ap (signed true) (both_zero a b h)
level_signed true false a b h = ap (signed true) (eqb→eq a 0 (and_r (eqb a b) (eqb a 0) h)) ∙ ap pos (both_zero a b h)

pub signed_level : (s t : Bool) (a b : ℕ) → signed s a ≡ signed t b → T (level s a t b)
signed_level s t a b e = and_i (eqb a b) (beq s t || eqb a 0) (eq→eqb (sym (nat_abs_signed s a) ∙ ap nat_abs e ∙ nat_abs_signed t b)) (like_or_zero s t e)
  where
    like_or_zero : (s t : Bool) → signed s a ≡ signed t b → T (beq s t || eqb a 0)
    like_or_zero false false e = tt
    like_or_zero true true e = tt
    like_or_zero false true e = eq→eqb (ap pos_part e ∙ pos_part_neg (pos b))
    like_or_zero true false e = eq→eqb (sym (neg_part_neg (pos a)) ∙ ap neg_part e)
