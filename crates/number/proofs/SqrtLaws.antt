-- Laws of `sqrt_of`: it keeps the order, and has no minus sign where its argument has none. Assumes nothing.
use Rattle.std.proofs.Common.{◌≡◌, ℕ, zero, suc, ◌+◌, ◌*◌, ◌/◌, ◌^◌, ◌≤◌, Bool, true, false, cond, ◌&&◌, ◌||◌, T, eqb, ltb, ℤ, pos, sym, refl, subst, subst₂, le_trans, lt_of_lt_of_le, mul-le-mul_right, zero-lt-suc, mul-pos, arith, eqb→eq, lt→ltb, pow_pos, ltb-true}
use lib.Ieee.{Float, nan, inf, fin, binary64, up, down, le}
use lib.Ieee.Fits.{down_pos, up_pos, and_i, and_l, and_r, eq→eqb}
use lib.Ieee.Nearest.{div_mono}
use lib.Ieee.Order.{round_mono}
use Rattle.number.specs.Exact.{zeroᶠ}
use Rattle.number.specs.Root.{floor_root, twice_root, root_of, sqrt_of, Plus, plus_inf, plus_fin}
use Rattle.number.proofs.Basics.{or_l, or_r}
use Rattle.number.proofs.FloorRoot.{floor_root_lem, above_twice, above_twice_le}
use Rattle.number.proofs.Fields.{sqrt_positive}
use Rattle.number.proofs.PlusLaws.{le_says, le_inf, zero_le, round_plus}

-- ---- `root_of` keeps the order
twice_mono : (a b : ℕ) → a ≤ b → twice_root a ≤ twice_root b
unfolding twice_root
twice_mono a b h = go (ltb (floor_root a * floor_root a) a) refl
  where
    go : (t : Bool) → ltb (floor_root a * floor_root a) a ≡ t → 2 * floor_root a + cond t 1 0 ≤ twice_root b
    go true e = omega (arith, above_twice b (floor_root a) (lt_of_lt_of_le (ltb-true (floor_root a * floor_root a) a e) h))
    go false e = omega (arith, above_twice_le b (floor_root a) (le_trans (floor_root_lem a).0 h))

root_mono : (a b : ℕ) → a ≤ b → T (le (root_of a) (root_of b))
unfolding root_of
root_mono a b h = round_mono binary64 (twice_root a) (2 ^ 601) (twice_root b) (2 ^ 601) (pow_pos 601) (pow_pos 601) (mul-le-mul_right (2 ^ 601) (twice_mono a b h))

root_plus : (n : ℕ) → Plus (root_of n)
unfolding root_of
root_plus n = round_plus (twice_root n) (2 ^ 601)

-- ---- without a minus sign
sqrt_above_zero : (m : ℕ) (e : ℤ) → sqrt_of (fin false (suc m) e) ≡ root_of (suc m * up e * 2 ^ 1200 / down e)
sqrt_above_zero m e = sqrt_positive (fin false (suc m) e) (lt→ltb 0 (suc m) (zero-lt-suc m))

pub sqrt_plus : {x : Float} → Plus x → Plus (sqrt_of x)
unfolding sqrt_of
sqrt_plus plus_inf = plus_inf
sqrt_plus (plus_fin zero e) = plus_fin 0 e
sqrt_plus (plus_fin (suc m) e) = subst Plus (sym (sqrt_above_zero m e)) (root_plus (suc m * up e * 2 ^ 1200 / down e))

pub sqrt_mono : {x y : Float} → Plus x → Plus y → T (le x y) → T (le (sqrt_of x) (sqrt_of y))
unfolding sqrt_of le
sqrt_mono p plus_inf h = le_inf (sqrt_plus p)
sqrt_mono plus_inf (plus_fin n d) h = absurd h
sqrt_mono (plus_fin zero e) (plus_fin n d) h = zero_le e (sqrt_plus (plus_fin n d))
sqrt_mono (plus_fin (suc m) e) (plus_fin zero d) h = absurd (omega (arith, le_says (suc m) e 0 d h, mul-pos (mul-pos (zero-lt-suc m) (up_pos e)) (down_pos d)))
sqrt_mono (plus_fin (suc m) e) (plus_fin (suc n) d) h =
    subst₂ (λ (v w : Float). T (le v w)) (sym (sqrt_above_zero m e)) (sym (sqrt_above_zero n d))
    (root_mono (suc m * up e * 2 ^ 1200 / down e) (suc n * up d * 2 ^ 1200 / down d)
    (div_mono (suc m * up e * 2 ^ 1200) (down e) (suc n * up d * 2 ^ 1200) (down d) (down_pos e) (down_pos d) (scale (suc m * up e) (down e) (suc n * up d) (down d) (2 ^ 1200) (le_says (suc m) e (suc n) d h))))
  where
    scale : (a u b w p : ℕ) → a * w ≤ b * u → a * p * w ≤ b * p * u
    scale a u b w p h = omega (arith, mul-le-mul_right p h)

-- ---- all that is at least zero: -0 is, and keeps its sign
data AtLeastZero : Float → Type 0 where
  minus_zero : (e : ℤ) → AtLeastZero (fin true 0 e)
  plus : {x : Float} → Plus x → AtLeastZero x

at_least_zero : (x : Float) → T (le zeroᶠ x) → AtLeastZero x
unfolding le
at_least_zero nan t = absurd t
at_least_zero (inf true) t = absurd t
at_least_zero (inf false) t = plus plus_inf
at_least_zero (fin false m e) t = plus (plus_fin m e)
at_least_zero (fin true zero e) t = minus_zero e
at_least_zero (fin true (suc m) e) t =
    let q : 0 * 1 * down e ≡ suc m * up e * 1 = eqb→eq (0 * 1 * down e) (suc m * up e * 1) (and_l (eqb (0 * 1 * down e) (suc m * up e * 1)) (eqb (0 * 1 * down e) 0) t) in
    absurd (omega (arith, mul-pos (zero-lt-suc m) (up_pos e)))

minus_zero_le : (e : ℤ) {x : Float} → Plus x → T (le (fin true 0 e) x)
unfolding le
minus_zero_le e plus_inf = tt
minus_zero_le e (plus_fin m d) = zero_at_most (0 * up e * down d) (m * up d * down e) (omega arith)
  where
    zero_at_most : (a b : ℕ) → a ≡ 0 → T (ltb 0 (a + b) || (eqb a b && (false || eqb a 0)))
    zero_at_most a zero z = or_r (ltb 0 (a + 0)) (eqb a 0 && eqb a 0) (and_i (eqb a 0) (eqb a 0) (eq→eqb z) (eq→eqb z))
    zero_at_most a (suc b) z = or_l (ltb 0 (a + suc b)) (eqb a (suc b) && eqb a 0) (lt→ltb 0 (a + suc b) (omega arith))

pub sqrt_mono_all : (x y : Float) → T (le zeroᶠ x) → T (le zeroᶠ y) → T (le x y) → T (le (sqrt_of x) (sqrt_of y))
unfolding sqrt_of le
sqrt_mono_all x y a b h = go (at_least_zero x a) (at_least_zero y b) h
  where
    go : {x y : Float} → AtLeastZero x → AtLeastZero y → T (le x y) → T (le (sqrt_of x) (sqrt_of y))
    go (plus p) (plus q) h = sqrt_mono p q h
    go (minus_zero e) (plus q) h = minus_zero_le e (sqrt_plus q)
    go (minus_zero e) (minus_zero d) h = h
    go (plus plus_inf) (minus_zero d) h = absurd h
    go (plus (plus_fin zero e)) (minus_zero d) h = h
    go (plus (plus_fin (suc m) e)) (minus_zero d) h =
        let a = suc m * up e * down d in
        let z : a ≡ 0 = eqb→eq a 0 (and_r (eqb a (0 * up d * down e)) (eqb a 0) h) in
        absurd (omega (arith, mul-pos (mul-pos (zero-lt-suc m) (up_pos e)) (down_pos d)))

pub sqrt_nonneg : (x : Float) → T (le zeroᶠ x) → T (le zeroᶠ (sqrt_of x))
unfolding sqrt_of
sqrt_nonneg x a = sqrt_mono_all zeroᶠ x (zero_le (pos 0) (plus_fin 0 (pos 0))) a a
