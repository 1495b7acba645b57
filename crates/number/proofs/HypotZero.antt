-- Where `hypot_of` is zero: where both squares round to zero, which is said in whole numbers too. Assumes nothing.
use Rattle.std.proofs.Common.{◌≡◌, ℕ, zero, suc, ◌+◌, ◌*◌, ◌^◌, ◌<◌, Bool, true, false, ◌&&◌, T, leb, ◌⊎◌, ℤ, pos, negsuc, nat_abs, sym, refl, ap, ◌∙◌, subst, ap₂, inl, inr, mul-le-mul_right, zero-lt-suc, mul-pos, arith, lt→ltb, pow_pos, leb-false, leb-true}
use mathlib.Core.Bool.{and-false, and_comm}
use lib.Ieee.{Float, nan, inf, fin, binary64, up, down, round, add, mul, le, eq, fits}
use lib.Ieee.Fits.{up_pos, down_pos, add-fits, mul-fits}
use lib.Ieee.Order.{round_mono}
use lib.Ieee.Scale.{round_same}
use lib.Ieee.Positive.{positive, above, above_of_le}
use Rattle.algebra.proofs.SignedLaws.{nat_abs_signed}
use Rattle.number.specs.Exact.{Is, zeroᶠ}
use Rattle.number.specs.Root.{sqrt_of, Plus, plus_inf, plus_fin}
use Rattle.number.specs.Signs.{abs_of}
use Rattle.number.specs.Hypot.{hypot_of, vanishes}
use Rattle.number.proofs.Tests.{is_zero, not_zero, above_not_zero}
use Rattle.number.proofs.Doubles.{round_fixed}
use Rattle.number.proofs.PlusLaws.{le_says, round_plus, add_plus, add_swap, le_add, square_plus, square_abs, square_at}
use Rattle.number.proofs.CloseRoot.{sqrt_above}
use Rattle.number.proofs.HypotLaws.{nan_or_plus, hypot_swap}

positive_above : (x : Float) → T (positive x) → T (above x)
positive_above nan p = absurd p
positive_above (inf s) p = absurd p
positive_above (fin true m e) p = absurd p
positive_above (fin false m e) p = p

-- ---- a sum is zero where both are, and a root where its argument is: no double lies between zero and the smallest
sum_not_zero : (m : ℕ) (e : ℤ) {y : Float} → Plus y → T (fits binary64 (fin false (suc m) e)) → eq (add binary64 (fin false (suc m) e) y) zeroᶠ ≡ false
sum_not_zero m e {y} q F = above_not_zero (add binary64 (fin false (suc m) e) y) (above_of_le (fin false (suc m) e) (add binary64 (fin false (suc m) e) y) (lt→ltb 0 (suc m) (zero-lt-suc m)) (le_add (plus_fin (suc m) e) q F))

sum_zero : {x y : Float} → Plus x → Plus y → T (fits binary64 x) → T (fits binary64 y) → eq (add binary64 x y) zeroᶠ ≡ (eq x zeroᶠ && eq y zeroᶠ)
unfolding add eq fits
sum_zero plus_inf plus_inf F G = refl
sum_zero plus_inf (plus_fin n d) F G = refl
sum_zero (plus_fin m e) plus_inf F G = sym (and-false (eq (fin false m e) zeroᶠ))
sum_zero (plus_fin (suc m) e) (plus_fin n d) F G = sum_not_zero m e (plus_fin n d) F ∙ sym (ap (λ (b : Bool). b && eq (fin false n d) zeroᶠ) (not_zero false m e))
sum_zero (plus_fin zero e) (plus_fin (suc n) d) F G =
    ap (λ (v : Float). eq v zeroᶠ) (add_swap binary64 (fin false 0 e) (fin false (suc n) d))
    ∙ sum_not_zero n d (plus_fin 0 e) G
    ∙ sym (ap (λ (b : Bool). eq (fin false 0 e) zeroᶠ && b) (not_zero false n d) ∙ and-false (eq (fin false 0 e) zeroᶠ))
sum_zero (plus_fin zero e) (plus_fin zero d) F G =
    ap (λ (v : Float). eq v zeroᶠ) (round_same binary64 false (0 * up e * down d + 0 * up d * down e) (down e * down d) 0 1 (mul-pos (down_pos e) (down_pos d)) (zero-lt-suc 0) (omega arith) ∙ round_fixed false 0 (pos 0) tt)
    ∙ sym (ap₂ ◌&&◌ (is_zero false e) (is_zero false d))

root_zero : {x : Float} → Plus x → T (fits binary64 x) → eq (sqrt_of x) zeroᶠ ≡ eq x zeroᶠ
unfolding sqrt_of
root_zero plus_inf F = refl
root_zero (plus_fin zero e) F = refl
root_zero (plus_fin (suc m) e) F = above_not_zero (sqrt_of (fin false (suc m) e)) (positive_above (sqrt_of (fin false (suc m) e)) (sqrt_above (fin false (suc m) e) F (lt→ltb 0 (suc m) (zero-lt-suc m)))) ∙ sym (not_zero false m e)

-- ---- the law
pub hypot_zero : (a b : Float) → eq (hypot_of a b) zeroᶠ ≡ (vanishes a && vanishes b)
unfolding hypot_of vanishes
hypot_zero a b = go (nan_or_plus a) (nan_or_plus b)
  where
    at_nan : (b : Float) → eq (hypot_of nan b) zeroᶠ ≡ (vanishes nan && vanishes b)
    at_nan b = refl

    go : (a ≡ nan) ⊎ Plus (abs_of a) → (b ≡ nan) ⊎ Plus (abs_of b) → eq (hypot_of a b) zeroᶠ ≡ (vanishes a && vanishes b)
    go (inl p) q = subst (λ (v : Float). eq (hypot_of v b) zeroᶠ ≡ (vanishes v && vanishes b)) (sym p) (at_nan b)
    go (inr p) (inl q) = ap (λ (v : Float). eq v zeroᶠ) (hypot_swap a b) ∙ subst (λ (v : Float). eq (hypot_of v a) zeroᶠ ≡ (vanishes v && vanishes a)) (sym q) (at_nan a) ∙ and_comm (vanishes b) (vanishes a)
    go (inr p) (inr q) =
        let A : Plus (mul binary64 a a) = subst Plus (sym (square_abs a)) (square_plus p) in
        let B : Plus (mul binary64 b b) = subst Plus (sym (square_abs b)) (square_plus q) in
        root_zero (add_plus A B) (add-fits binary64 (mul binary64 a a) (mul binary64 b b)) ∙ sum_zero A B (mul-fits binary64 a a) (mul-fits binary64 b b)

-- ---- the same in whole numbers: the square of z units of 2 ^ -1074 rounds to zero up to half of the smallest double, which is a tie and goes to zero, the even one
half_rounds_to_zero : round binary64 false (2 ^ 1073) (2 ^ 1074 * 2 ^ 1074) ≡ zeroᶠ
unfolding round
half_rounds_to_zero = refl

more_rounds_up : round binary64 false (suc (2 ^ 1073)) (2 ^ 1074 * 2 ^ 1074) ≡ fin false 1 (negsuc 1073)
unfolding round
more_rounds_up = refl

at_most_zero : {x : Float} → Plus x → T (le x zeroᶠ) → eq x zeroᶠ ≡ true
unfolding le
at_most_zero plus_inf h = absurd h
at_most_zero (plus_fin zero e) h = is_zero false e
at_most_zero (plus_fin (suc m) e) h = absurd (omega (arith, le_says (suc m) e 0 (pos 0) h, mul-pos (zero-lt-suc m) (up_pos e)))

pub vanishes_is : (a : Float) (z : ℤ) → Is 1074 a z → vanishes a ≡ leb (nat_abs z * nat_abs z) (2 ^ 1073)
unfolding vanishes
vanishes_is a z I =
    ap (λ (v : Float). eq v zeroᶠ) (square_at a I.sign I.mag (2 ^ 1074) (pow_pos 1074) I.has)
    ∙ go (leb (I.mag * I.mag) (2 ^ 1073)) refl
    ∙ ap (λ (n : ℕ). leb (n * n) (2 ^ 1073)) (sym (nat_abs_signed I.sign I.mag) ∙ ap nat_abs I.is)
  where
    n : ℕ
    n = I.mag * I.mag

    c : ℕ
    c = 2 ^ 1074 * 2 ^ 1074

    C : 0 < c
    C = mul-pos (pow_pos 1074) (pow_pos 1074)

    go : (b : Bool) → leb n (2 ^ 1073) ≡ b → eq (round binary64 false n c) zeroᶠ ≡ b
    go true h = at_most_zero (round_plus n c) (subst (λ (v : Float). T (le (round binary64 false n c) v)) half_rounds_to_zero (round_mono binary64 n c (2 ^ 1073) c C C (mul-le-mul_right c (leb-true n (2 ^ 1073) h))))
    go false h = above_not_zero (round binary64 false n c) (above_of_le (fin false 1 (negsuc 1073)) (round binary64 false n c) tt (subst (λ (v : Float). T (le v (round binary64 false n c))) more_rounds_up (round_mono binary64 (suc (2 ^ 1073)) c n c C C (mul-le-mul_right c (leb-false n (2 ^ 1073) h)))))
