-- Floats without a minus sign: their order, their sums, and squares. Assumes nothing.
use Rattle.std.proofs.Common.{◌≡◌, ℕ, ◌+◌, ◌-◌, ◌*◌, ◌<◌, ◌≤◌, Bool, true, false, cond, not, ◌&&◌, ◌||◌, T, eqb, ltb, ℤ, sym, refl, ap, ◌∙◌, subst, ⊎_elim, le_of_eq, le_of_lt, mul-le-mul_right, zero-lt-suc, mul_comm, mul-le-mul, add_comm, mul-pos, arith, eqb→eq, ltb→lt, ltb-false, ltb-true}
use native.Mathlib.Nat.{mul-mul-mul_comm}
use lib.Ieee.{Float, nan, inf, fin, Format, binary64, up, down, round, sum, add, mul, le, fits, is_nan}
use lib.Ieee.Fits.{down_pos, and_l}
use lib.Ieee.Exact.{HasValue}
use lib.Ieee.Order.{le_of_values, round_mono}
use lib.Ieee.Scale.{round_same}
use Rattle.number.specs.Exact.{zeroᶠ}
use Rattle.number.specs.Root.{Plus, plus_inf, plus_fin}
use Rattle.number.specs.Signs.{abs_of}
use Rattle.number.proofs.Basics.{or_split}
use Rattle.number.proofs.Compare.{HasSign}
use Rattle.number.proofs.RoundingLaws.{round_sign}
use Rattle.number.proofs.Doubles.{round_fixed}

-- ---- the order is that of the fractions, and the infinity is above all
pub le_says : (m : ℕ) (e : ℤ) (n : ℕ) (d : ℤ) → T (le (fin false m e) (fin false n d)) → m * up e * down d ≤ n * up d * down e
unfolding le
le_says m e n d h = lt_or_eq (m * up e * down d) (n * up d * down e) h
  where
    lt_or_eq : (a b : ℕ) → T (ltb a b || (eqb a b && true)) → a ≤ b
    lt_or_eq a b t = ⊎_elim (λ u. le_of_lt (ltb→lt a b u)) (λ u. le_of_eq (eqb→eq a b (and_l (eqb a b) true u))) (or_split (ltb a b) (eqb a b && true) t)

pub says_le : (m : ℕ) (e : ℤ) (n : ℕ) (d : ℤ) → m * up e * down d ≤ n * up d * down e → T (le (fin false m e) (fin false n d))
says_le m e n d h = le_of_values (fin false m e) (fin false n d) (m * up e) (down e) (n * up d) (down d) (down_pos e) (down_pos d) (refl, refl) (refl, refl) h

pub le_inf : {x : Float} → Plus x → T (le x (inf false))
unfolding le
le_inf plus_inf = tt
le_inf (plus_fin m e) = tt

pub zero_le : (e : ℤ) {x : Float} → Plus x → T (le (fin false 0 e) x)
unfolding le
zero_le e plus_inf = tt
zero_le e (plus_fin m d) = says_le 0 e m d (omega arith)

pub plus_not_nan : {x : Float} → Plus x → T (not (is_nan x))
unfolding is_nan
plus_not_nan plus_inf = tt
plus_not_nan (plus_fin m e) = tt

-- ---- rounding
sign_plus : (x : Float) → HasSign x false → Plus x
sign_plus nan h = elim h [ ]
sign_plus (inf true) h = elim h [ ]
sign_plus (fin true m e) h = elim h [ ]
sign_plus (inf false) h = plus_inf
sign_plus (fin false m e) h = plus_fin m e

pub round_plus : (a c : ℕ) → Plus (round binary64 false a c)
round_plus a c = sign_plus (round binary64 false a c) (round_sign binary64 false a c)

-- ---- sums
pub add_plus : {x y : Float} → Plus x → Plus y → Plus (add binary64 x y)
unfolding add
add_plus plus_inf plus_inf = plus_inf
add_plus plus_inf (plus_fin n d) = plus_inf
add_plus (plus_fin m e) plus_inf = plus_inf
add_plus (plus_fin m e) (plus_fin n d) = round_plus (m * up e * down d + n * up d * down e) (down e * down d)

pub plus_add_mono : {x y x' y' : Float} → Plus x → Plus y → Plus x' → Plus y' → T (le x x') → T (le y y') → T (le (add binary64 x y) (add binary64 x' y'))
unfolding add le
plus_add_mono p q plus_inf plus_inf h k = le_inf (add_plus p q)
plus_add_mono p q plus_inf (plus_fin n' d') h k = le_inf (add_plus p q)
plus_add_mono p q (plus_fin m' e') plus_inf h k = le_inf (add_plus p q)
plus_add_mono plus_inf q (plus_fin m' e') (plus_fin n' d') h k = absurd h
plus_add_mono (plus_fin m e) plus_inf (plus_fin m' e') (plus_fin n' d') h k = absurd k
plus_add_mono (plus_fin m e) (plus_fin n d) (plus_fin m' e') (plus_fin n' d') h k =
    round_mono binary64 (m * up e * down d + n * up d * down e) (down e * down d) (m' * up e' * down d' + n' * up d' * down e') (down e' * down d') (mul-pos (down_pos e) (down_pos d)) (mul-pos (down_pos e') (down_pos d'))
    (cross (m * up e) (n * up d) (down e) (down d) (m' * up e') (n' * up d') (down e') (down d') (le_says m e m' e' h) (le_says n d n' d' k))
  where
    cross : (a b u w a' b' u' w' : ℕ) → a * u' ≤ a' * u → b * w' ≤ b' * w → (a * w + b * u) * (u' * w') ≤ (a' * w' + b' * u') * (u * w)
    cross a b u w a' b' u' w' h k = omega (arith, mul-le-mul_right (w * w') h, mul-le-mul_right (u * u') k)

unlike_swap : (f : Format) (a b c : ℕ) → sum f true a false b c ≡ sum f false b true a c
unfolding sum
unlike_swap f a b c = go (ltb a b) (ltb b a) refl refl
  where
    go : (p q : Bool) → ltb a b ≡ p → ltb b a ≡ q → cond p (round f false (b - a) c) (round f q (a - b) c) ≡ cond q (round f true (a - b) c) (round f false (b - a) c)
    go true true h k = absurd (omega (arith, ltb-true a b h, ltb-true b a k))
    go true false h k = refl
    go false true h k = refl
    go false false h k = ap (λ (n : ℕ). round f false n c) (omega (arith, ltb-false a b h, ltb-false b a k))

sum_swap : (f : Format) (s t : Bool) (a b c : ℕ) → sum f s a t b c ≡ sum f t b s a c
unfolding sum
sum_swap f true true a b c = rw (add_comm a b)
sum_swap f false false a b c = rw (add_comm a b)
sum_swap f true false a b c = unlike_swap f a b c
sum_swap f false true a b c = sym (unlike_swap f b a c)

pub add_swap : (f : Format) (x y : Float) → add f x y ≡ add f y x
unfolding add
add_swap f nan nan = refl
add_swap f nan (inf t) = refl
add_swap f nan (fin t n d) = refl
add_swap f (inf s) nan = refl
add_swap f (inf true) (inf true) = refl
add_swap f (inf true) (inf false) = refl
add_swap f (inf false) (inf true) = refl
add_swap f (inf false) (inf false) = refl
add_swap f (inf s) (fin t n d) = refl
add_swap f (fin s m e) nan = refl
add_swap f (fin s m e) (inf t) = refl
add_swap f (fin s m e) (fin t n d) = sum_swap f s t (m * up e * down d) (n * up d * down e) (down e * down d) ∙ ap (sum f t (n * up d * down e) s (m * up e * down d)) (mul_comm (down e) (down d))

-- a sum is at least each of its parts, and zero adds nothing
pub le_add : {x y : Float} → Plus x → Plus y → T (fits binary64 x) → T (le x (add binary64 x y))
unfolding add le
le_add plus_inf plus_inf F = tt
le_add plus_inf (plus_fin n d) F = tt
le_add (plus_fin m e) plus_inf F = tt
le_add (plus_fin m e) (plus_fin n d) F =
    subst (λ (v : Float). T (le v (add binary64 (fin false m e) (fin false n d)))) (round_fixed false m e F)
    (round_mono binary64 (m * up e) (down e) (m * up e * down d + n * up d * down e) (down e * down d) (down_pos e) (mul-pos (down_pos e) (down_pos d)) (omega arith))

pub add_zero : {x : Float} → Plus x → T (fits binary64 x) → add binary64 x zeroᶠ ≡ x
unfolding add
add_zero plus_inf F = refl
add_zero (plus_fin m e) F =
    round_same binary64 false (m * up e * 1 + 0 * 1 * down e) (down e * 1) (m * up e) (down e) (mul-pos (down_pos e) (zero-lt-suc 0)) (down_pos e) (omega arith) ∙ round_fixed false m e F

-- ---- squares
pub square_plus : {x : Float} → Plus x → Plus (mul binary64 x x)
unfolding mul
square_plus plus_inf = plus_inf
square_plus (plus_fin m e) = round_plus (m * up e * (m * up e)) (down e * down e)

pub square_mono : {x y : Float} → Plus x → Plus y → T (le x y) → T (le (mul binary64 x x) (mul binary64 y y))
unfolding mul le
square_mono p plus_inf h = le_inf (square_plus p)
square_mono plus_inf (plus_fin n d) h = absurd h
square_mono (plus_fin m e) (plus_fin n d) h =
    round_mono binary64 (m * up e * (m * up e)) (down e * down e) (n * up d * (n * up d)) (down d * down d) (mul-pos (down_pos e) (down_pos e)) (mul-pos (down_pos d) (down_pos d))
    (cross (m * up e) (down e) (n * up d) (down d) (le_says m e n d h))
  where
    cross : (a u b w : ℕ) → a * w ≤ b * u → a * a * (w * w) ≤ b * b * (u * u)
    cross a u b w h = omega (arith, mul-le-mul h h)

-- the sign does not matter
pub square_abs : (a : Float) → mul binary64 a a ≡ mul binary64 (abs_of a) (abs_of a)
unfolding mul abs_of
square_abs nan = refl
square_abs (inf true) = refl
square_abs (inf false) = refl
square_abs (fin true m e) = refl
square_abs (fin false m e) = refl

-- by any fraction n / c that the magnitude equals
pub square_at : (a : Float) (s : Bool) (n c : ℕ) → 0 < c → HasValue a s n c → mul binary64 a a ≡ round binary64 false (n * n) (c * c)
unfolding mul abs_of
square_at a s n c C h = square_abs a ∙ at a h
  where
    at : (a : Float) → HasValue a s n c → mul binary64 (abs_of a) (abs_of a) ≡ round binary64 false (n * n) (c * c)
    at nan h = absurd h
    at (inf t) h = absurd h
    at (fin t m e) h =
        round_same binary64 false (m * up e * (m * up e)) (down e * down e) (n * n) (c * c) (mul-pos (down_pos e) (down_pos e)) (mul-pos C C)
        (mul-mul-mul_comm (m * up e) (m * up e) c c ∙ ap (λ (z : ℕ). z * z) h.1 ∙ mul-mul-mul_comm n (down e) n (down e))
