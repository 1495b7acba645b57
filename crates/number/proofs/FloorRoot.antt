-- What `floor_root` and `twice_root` are. Assumes nothing.
use Rattle.std.proofs.Common.{◌≡◌, ℕ, zero, suc, ◌+◌, ◌*◌, ◌/◌, ◌^◌, ◌<◌, ◌≤◌, Bool, true, false, cond, ltb, leb, refl, subst, lt_of_lt_of_le, lt_of_le_of_lt, zero-lt-suc, div-lt_iff_lt-mul, mul-le-mul, pow-suc, arith, lit≤, ltb-false, leb-false, leb-true}
use native.Mathlib.Nat.{pow-le-pow_left}
use native.Mathlib.Omega.{by_contra}
use lib.Ieee.{size}
use lib.Ieee.Digits.{size-lt}
use Rattle.number.specs.Root.{root_below, floor_root, twice_root}

-- r is the root of n, cut to a whole number
abbrev pub IsRoot : ℕ → ℕ → Type 0
IsRoot n r = (r * r ≤ n) × (n < (r + 1) * (r + 1))

below_root : (k n : ℕ) → n < 4 ^ k → IsRoot n (root_below k n)
unfolding root_below
below_root zero n h = (omega arith, omega arith)
below_root (suc k) n h = go (leb ((r + 1) * (r + 1)) n) refl (below_root k (n / 4) ((div-lt_iff_lt-mul (zero-lt-suc 3)).1 (subst (λ (x : ℕ). n < x) (pow-suc 4 k) h)))
  where
    r : ℕ
    r = 2 * root_below k (n / 4)

    up_square : (s : ℕ) → n / 4 < (s + 1) * (s + 1) → n < (2 * s + 1 + 1) * (2 * s + 1 + 1)
    up_square s h = omega arith

    down_square : (s : ℕ) → s * s ≤ n / 4 → 2 * s * (2 * s) ≤ n
    down_square s h = omega arith

    go : (b : Bool) → leb ((r + 1) * (r + 1)) n ≡ b → IsRoot (n / 4) (root_below k (n / 4)) → IsRoot n (cond b (r + 1) r)
    go true e ih = (leb-true _ _ e, up_square (root_below k (n / 4)) ih.1)
    go false e ih = (down_square (root_below k (n / 4)) ih.0, leb-false _ _ e)

pub floor_root_lem : (n : ℕ) → IsRoot n (floor_root n)
unfolding floor_root
floor_root_lem n = below_root (size n) n (lt_of_lt_of_le (size-lt n) (pow-le-pow_left (lit≤ tt) (size n)))

-- ---- where twice the root lies: 2 a < twiceRoot n where a * a < n, 2 a ≤ twiceRoot n where a * a ≤ n, and twiceRoot n < 2 b where n < b * b

pub square_lt : (a b : ℕ) → a * a < b * b → a < b
square_lt a b h = by_contra (suc a) b (λ (l : b < suc a). let g : b ≤ a = omega arith in omega (arith, mul-le-mul g g))

pub above_twice : (n a : ℕ) → a * a < n → 2 * a < twice_root n
unfolding twice_root
above_twice n a h = go (ltb (floor_root n * floor_root n) n) refl
  where
    go : (b : Bool) → ltb (floor_root n * floor_root n) n ≡ b → 2 * a < 2 * floor_root n + cond b 1 0
    go true e = let l : a < floor_root n + 1 = square_lt a (floor_root n + 1) (omega (arith, (floor_root_lem n).1)) in omega arith
    go false e = let l : a < floor_root n = square_lt a (floor_root n) (lt_of_lt_of_le h (ltb-false (floor_root n * floor_root n) n e)) in omega arith

pub above_twice_le : (n a : ℕ) → a * a ≤ n → 2 * a ≤ twice_root n
unfolding twice_root
above_twice_le n a h = let l : a < floor_root n + 1 = square_lt a (floor_root n + 1) (lt_of_le_of_lt h (floor_root_lem n).1) in omega arith

pub below_twice : (n b : ℕ) → n < b * b → twice_root n < 2 * b
unfolding twice_root
below_twice n b h = go (ltb (floor_root n * floor_root n) n) (square_lt (floor_root n) b (lt_of_le_of_lt (floor_root_lem n).0 h))
  where
    go : (t : Bool) → floor_root n < b → 2 * floor_root n + cond t 1 0 < 2 * b
    go true l = omega arith
    go false l = omega arith
