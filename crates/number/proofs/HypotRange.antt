-- How large a length is: at least as large as each of its two sides, and at most twice a power of two that is as large as both. Assumes nothing.
use Rattle.std.proofs.Common.{◌≡◌, ℕ, suc, false, not, T, pos, sym, refl, ◌∙◌, subst}
use lib.Ieee.{Float, fin, binary64, lt, le, fits, is_nan}
use Rattle.number.specs.Signs.{abs_of}
use Rattle.number.specs.Exact.{zeroᶠ, one}
use Rattle.number.specs.Root.{sqrt_of, plus_fin}
use Rattle.number.specs.Hypot.{hypot_of, square_least, square_end}
use Rattle.number.proofs.OrderLaws.{le_self, le_through, right_not_nan}
use Rattle.number.proofs.MagnitudeOrder.{abs_nonneg, abs_plus}
use Rattle.number.proofs.HypotLaws.{hypot_swap, hypot_mono}
use Rattle.number.proofs.HypotAxis.{hypot_axis}

abbrev pub power : ℕ → Float
power k = fin false 1 (pos k)

-- two sides of 2 ^ k have a length of at most twice that
abbrev pub Doubled : ℕ → Type 0
Doubled k = T (le (hypot_of (power k) (power k)) (power (suc k)))

pub doubled_71 : Doubled 71
unfolding hypot_of sqrt_of le
doubled_71 = tt

pub doubled_94 : Doubled 94
unfolding hypot_of sqrt_of le
doubled_94 = tt

pub hypot_at_most : (k : ℕ) (x y : Float) → Doubled k → T (le (abs_of x) (power k)) → T (le (abs_of y) (power k)) → T (le (hypot_of x y) (power (suc k)))
hypot_at_most k x y D X Y =
    let own = sym (abs_plus (plus_fin 1 (pos k))) in
    le_through (hypot_of x y) (hypot_of (power k) (power k)) (power (suc k))
    (hypot_mono x y (power k) (power k) (subst (λ (v : Float). T (le (abs_of x) v)) own X) (subst (λ (v : Float). T (le (abs_of y) v)) own Y)) D

pub hypot_at_least : (x y : Float) → T (not (is_nan x)) → T (fits binary64 y) → T (le square_least (abs_of y)) → T (lt (abs_of y) square_end) → T (le (abs_of y) (hypot_of x y))
hypot_at_least x y n F l h =
    let axis = hypot_swap zeroᶠ y ∙ hypot_axis y false (pos 0) F l h in
    let side = le_self (abs_of y) (right_not_nan square_least (abs_of y) l) in
    let other = subst (λ (v : Float). T (le v (abs_of x))) (sym (abs_plus (plus_fin 0 (pos 0)))) (abs_nonneg x n) in
    subst (λ (v : Float). T (le v (hypot_of x y))) axis (hypot_mono zeroᶠ y x y other side)

-- ---- the root of 1
pub sqrt_of_one : sqrt_of one ≡ one
unfolding sqrt_of
sqrt_of_one = refl
