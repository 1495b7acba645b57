-- The operations keep the order of floats: for all finite numbers of `f64`, of either sign and of any size, overflow to an infinity included. Assumes nothing.
use Rattle.std.proofs.Common.{ℕ, false, T, [], ◌∷◌, ℤ, pos, ◌*ℤ◌, sym, refl, subst, arith, lit<}
use lib.Ieee.{Float, fin, binary64, round, add, sub, mul, div, le, lt}
use Rattle.algebra.proofs.Quote.{quote}
use Rattle.algebra.proofs.Lin as L
use Rattle.algebra.proofs.Lin.{le_from}
use Rattle.algebra.specs.Order.{◌≦◌, ≤ℤ-trans, +ℤ-mono, negℤ_anti, nonneg_nat, pos_nonneg, <ℤ→≤ℤ}
use Rattle.algebra.proofs.Mono as M
use Rattle.number.specs.Exact.{Held, zeroᶠ}
use Rattle.number.specs.Rounding.{Rounds}
use Rattle.number.proofs.Operations.{zero_is, finite_is, add_rounds, sub_rounds, mul_rounds}
use Rattle.number.proofs.RoundingLaws.{rounds_order}
use Rattle.number.proofs.OrderLaws.{is_order, is_below, below_through}
use Rattle.number.proofs.Values.{quotient_rounds}

-- the whole number of 2 ^ -1074 that x is
abbrev units : {x : Float} → Held x → ℤ
units h = (finite_is h).0

units_order : {x y : Float} (h : Held x) (g : Held y) → T (le x y) → units h ≦ units g
units_order h g = is_order (finite_is h).1 (finite_is g).1

units_nonneg : {x : Float} (h : Held x) → T (le zeroᶠ x) → pos 0 ≦ units h
units_nonneg h = is_order (zero_is 1074) (finite_is h).1

-- two fractions over one denominator
order_over : {x y : Float} {n n' : ℤ} {c : ℕ} → Rounds x n c → Rounds y n' c → n ≦ n' → T (le x y)
order_over {c = c} h g l = rounds_order h g (M.mul_mono (pos c) (pos_nonneg c) l)

pub add_mono : {x x' y y' : Float} → Held x → Held x' → Held y → Held y' → T (le x x') → T (le y y') → T (le (add binary64 x y) (add binary64 x' y'))
add_mono hx hx' hy hy' l m = order_over (add_rounds (finite_is hx).1 (finite_is hy).1) (add_rounds (finite_is hx').1 (finite_is hy').1) (+ℤ-mono (units_order hx hx' l) (units_order hy hy' m))

pub sub_mono : {x x' y y' : Float} → Held x → Held x' → Held y → Held y' → T (le x x') → T (le y' y) → T (le (sub binary64 x y) (sub binary64 x' y'))
sub_mono hx hx' hy hy' l m = order_over (sub_rounds (finite_is hx).1 (finite_is hy).1) (sub_rounds (finite_is hx').1 (finite_is hy').1) (+ℤ-mono (units_order hx hx' l) (negℤ_anti (units_order hy' hy m)))

-- ---- products
mul_order : {x y x' y' : Float} (hx : Held x) (hy : Held y) (hx' : Held x') (hy' : Held y') → units hx *ℤ units hy ≦ units hx' *ℤ units hy' → T (le (mul binary64 x y) (mul binary64 x' y'))
mul_order hx hy hx' hy' = order_over (mul_rounds (finite_is hx).1 (finite_is hy).1) (mul_rounds (finite_is hx').1 (finite_is hy').1)

-- by a factor that is not negative
pub mul_mono : {x x' y : Float} → Held x → Held x' → Held y → T (le x x') → T (le zeroᶠ y) → T (le (mul binary64 x y) (mul binary64 x' y))
mul_mono hx hx' hy l m = mul_order hx hy hx' hy (M.mul_mono (units hy) (units_nonneg hy m) (units_order hx hx' l))

pub mul_mono_left : {x y y' : Float} → Held x → Held y → Held y' → T (le zeroᶠ x) → T (le y y') → T (le (mul binary64 x y) (mul binary64 x y'))
mul_mono_left hx hy hy' l m = mul_order hx hy hx hy' (go (units hx) (units hy) (units hy') (M.mul_mono (units hx) (units_nonneg hx l) (units_order hy hy' m)))
  where
    go : (z w w' : ℤ) → w *ℤ z ≦ w' *ℤ z → z *ℤ w ≦ z *ℤ w'
    go z w w' h = le_from (z ∷ w ∷ w' ∷ []) (L.le h ∷ []) (search quote depth 30) (omega arith)

-- of two factors that are not negative
pub mul_mono_both : {x y x' y' : Float} → Held x → Held y → Held x' → Held y' → T (le zeroᶠ x) → T (le zeroᶠ y) → T (le x x') → T (le y y') → T (le (mul binary64 x y) (mul binary64 x' y'))
mul_mono_both hx hy hx' hy' x0 y0 l m = mul_order hx hy hx' hy' (go (units hx) (units hy) (units hx') (units hy') (units_nonneg hx x0) (units_nonneg hy y0) (units_order hx hx' l) (units_order hy hy' m))
  where
    go : (z w z' w' : ℤ) → pos 0 ≦ z → pos 0 ≦ w → z ≦ z' → w ≦ w' → z *ℤ w ≦ z' *ℤ w'
    go z w z' w' a b l m = le_from (z ∷ w ∷ z' ∷ w' ∷ []) (L.le (M.mul_mono w b l) ∷ L.le (M.mul_mono z' (≤ℤ-trans a l) m) ∷ []) (search quote depth 30) (omega arith)

-- ---- quotients, by a divisor above zero
pub div_mono : {x x' y : Float} → Held x → Held x' → Held y → T (le x x') → T (lt zeroᶠ y) → T (le (div binary64 x y) (div binary64 x' y))
div_mono hx hx' hy l m = order_over (quotient_rounds hx hy m) (quotient_rounds hx' hy m) (units_order hx hx' l)

-- it grows with a dividend that is not negative, and falls with the divisor
pub div_mono_both : {x y x' y' : Float} → Held x → Held y → Held x' → Held y' → T (le zeroᶠ x') → T (lt zeroᶠ y') → T (le x x') → T (le y' y) → T (le (div binary64 x y) (div binary64 x' y'))
div_mono_both {y = y} {y' = y'} hx hy hx' hy' x0 y0 l m =
    let y1 = below_through zeroᶠ y' y y0 m in
    let P = <ℤ→≤ℤ (is_below (zero_is 1074) (finite_is hy').1 y0) in
    let Q = <ℤ→≤ℤ (is_below (zero_is 1074) (finite_is hy).1 y1) in
    rounds_order (quotient_rounds hx hy y1) (quotient_rounds hx' hy' y0)
    (rw (nonneg_nat P, nonneg_nat Q) (go (units hx) (units hy) (units hx') (units hy') (units_nonneg hx' x0) P (units_order hx hx' l) (units_order hy' hy m)))
  where
    go : (z w z' w' : ℤ) → pos 0 ≦ z' → pos 0 ≦ w' → z ≦ z' → w' ≦ w → z *ℤ w' ≦ z' *ℤ w
    go z w z' w' a b l m = le_from (z ∷ w ∷ z' ∷ w' ∷ []) (L.le (M.mul_mono w' b l) ∷ L.le (M.mul_mono z' a m) ∷ []) (search quote depth 30) (omega arith)

-- it is 1 at least where the divisor is no more than the dividend
pub one_le_quotient : {x y : Float} → Held x → Held y → T (lt zeroᶠ y) → T (le y x) → T (le (fin false 1 (pos 0)) (div binary64 x y))
unfolding round
one_le_quotient hx hy y0 l =
    let P = <ℤ→≤ℤ (is_below (zero_is 1074) (finite_is hy).1 y0) in
    rounds_order {n = pos 1} {c = 1} (record { sign = false; mag = 1; den_pos = lit< tt; same = refl; val = refl }) (quotient_rounds hx hy y0)
    (subst (λ (w : ℤ). pos 1 *ℤ w ≦ units hx *ℤ pos 1) (sym (nonneg_nat P)) (go (units hx) (units hy) (units_order hy hx l)))
  where
    go : (z w : ℤ) → w ≦ z → pos 1 *ℤ w ≦ z *ℤ pos 1
    go z w l = le_from (z ∷ w ∷ []) (L.le l ∷ []) (search quote depth 30) (omega arith)
