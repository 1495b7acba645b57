-- The sign bit, and what the functions of `signs` compute by it. Assumes nothing.
use Rattle.std.proofs.Common.{◌≡◌, ℕ, zero, suc, ◌+◌, ◌/◌, ◌%◌, ◌^◌, Bool, true, false, cond, not, T, eqb, leb, sym, refl, ap, ◌∙◌, subst}
use lib.Ieee.{Float, nan, inf, fin, binary64, unlike, neg, is_nan, fits, odd, of_fields, of_bits, to_bits}
use lib.Ieee.Bits.{of_bits-to_bits}
use Rattle.std.specs.Float.{float_with_sign}
use Rattle.number.specs.Signs.{sign_bit, with_sign, abs_of, copysign_of}

-- ---- the sign bit is the highest of the 64
sign_odd : (d : ℕ) (s : Bool) (q k l : ℕ) → sign_bit (odd d s q k l) ≡ s
unfolding odd sign_bit
sign_odd d s zero k l = refl
sign_odd d s (suc q) k l = refl

sign_fields : (s : Bool) (x t : ℕ) → T (not (is_nan (of_fields binary64 s x t))) → sign_bit (of_fields binary64 s x t) ≡ s
unfolding of_fields sign_bit is_nan
sign_fields s zero t n = sign_odd 53 s t 0 1074
sign_fields s (suc x) t n = go (eqb (suc x) 2047) (eqb t 0) n
  where
    go : (a b : Bool) → T (not (is_nan (cond a (cond b (inf s) nan) (odd 53 s (2 ^ 52 + t) x 1074)))) → sign_bit (cond a (cond b (inf s) nan) (odd 53 s (2 ^ 52 + t) x 1074)) ≡ s
    go true true n = refl
    go true false n = absurd n
    go false b n = sign_odd 53 s (2 ^ 52 + t) x 1074

pub sign_of_bits : (x : Float) → T (fits binary64 x) → T (not (is_nan x)) → leb (2 ^ 63) (to_bits binary64 x) ≡ sign_bit x
unfolding of_bits
sign_of_bits x F n =
    let b = to_bits binary64 x in
    let e = of_bits-to_bits binary64 x F in
    sym (sign_fields (leb (2 ^ 63) b) (b % 2 ^ 63 / 2 ^ 52) (b % 2 ^ 52) (subst (λ (v : Float). T (not (is_nan v))) (sym e) n)) ∙ ap sign_bit e

pub sign_of_nan : (x : Float) → is_nan x ≡ true → sign_bit x ≡ false
unfolding is_nan sign_bit
sign_of_nan nan h = refl
sign_of_nan (inf s) h = absurd (subst T (sym h) tt)
sign_of_nan (fin s m e) h = absurd (subst T (sym h) tt)

-- ---- a sign is set by negating, where it is not the wanted one
pub with_sign_lem : (s : Bool) (x : Float) → with_sign s x ≡ cond (unlike (sign_bit x) s) (neg x) x
unfolding with_sign sign_bit neg
with_sign_lem true nan = refl
with_sign_lem false nan = refl
with_sign_lem true (inf true) = refl
with_sign_lem true (inf false) = refl
with_sign_lem false (inf true) = refl
with_sign_lem false (inf false) = refl
with_sign_lem true (fin true m e) = refl
with_sign_lem true (fin false m e) = refl
with_sign_lem false (fin true m e) = refl
with_sign_lem false (fin false m e) = refl

unlike_false : (s : Bool) → unlike s false ≡ s
unlike_false true = refl
unlike_false false = refl

pub abs_negates : (x : Float) → abs_of x ≡ cond (sign_bit x) (neg x) x
unfolding abs_of
abs_negates x = with_sign_lem false x ∙ ap (λ (b : Bool). cond b (neg x) x) (unlike_false (sign_bit x))

-- std's magnitude is this one
pub abs_std : (x : Float) → float_with_sign false x ≡ abs_of x
unfolding float_with_sign abs_of with_sign
abs_std nan = refl
abs_std (inf s) = refl
abs_std (fin s m e) = refl

pub copysign_negates : (x y : Float) → copysign_of x y ≡ cond (unlike (sign_bit x) (sign_bit y)) (neg x) x
unfolding copysign_of
copysign_negates x y = with_sign_lem (sign_bit y) x

-- the sign that it is given
pub copysign_sign : (x y : Float) → T (not (is_nan x)) → sign_bit (copysign_of x y) ≡ sign_bit y
unfolding copysign_of is_nan
copysign_sign nan y n = absurd n
copysign_sign (inf s) y n = refl
copysign_sign (fin s m e) y n = refl
