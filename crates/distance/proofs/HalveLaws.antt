-- Laws of `halve`, one for each way a turn of the loop goes. Assumes nothing.
use mathlib.Core.Path.{◌≡◌}
use mathlib.Core.Bool.{true, false, ◌||◌}
use Prim.Native.Nat.{ℕ, suc, ◌+◌, ◌-◌, ◌<◌, ◌≤◌}
use native.Mathlib.Omega.{arith}
use lib.Ieee.{Float, lt, eq}
use Rattle.number.specs.Exact.{zeroᶠ}
use Rattle.distance.specs.declared.Curve.{Curve}
use Rattle.boundary.specs.Line.{middle}
use Rattle.distance.specs.Ellipse.{curve_at, halve}

-- no halvings are left
pub halve_end : (c : Curve) (n i : ℕ) (s s0 s1 : Float) → n ≤ i → halve c (n - i) s s0 s1 ≡ s
unfolding halve
halve_end c n i s s0 s1 l = let e : n - i ≡ 0 = omega arith in rw e

-- one more, with the middle m: it is an end, G is above zero there, below, or neither
module _ (c : Curve) (n i : ℕ) (s s0 s1 m : Float) (l : i < n) (is : m ≡ middle s0 s1) where
  left : n - i ≡ suc (n - (i + 1))
  left = omega arith

  pub halve_met : (eq m s0 || eq m s1) ≡ true → halve c (n - i) s s0 s1 ≡ m
  unfolding halve
  halve_met e = rw (left, ← is, e)

  pub halve_above : (eq m s0 || eq m s1) ≡ false → lt zeroᶠ (curve_at c m) ≡ true → halve c (n - i) s s0 s1 ≡ halve c (n - (i + 1)) m m s1
  unfolding halve
  halve_above e a = rw (left, ← is, e, a)

  pub halve_below : (eq m s0 || eq m s1) ≡ false → lt zeroᶠ (curve_at c m) ≡ false → lt (curve_at c m) zeroᶠ ≡ true → halve c (n - i) s s0 s1 ≡ halve c (n - (i + 1)) m s0 m
  unfolding halve
  halve_below e a b = rw (left, ← is, e, a, b)

  pub halve_root : (eq m s0 || eq m s1) ≡ false → lt zeroᶠ (curve_at c m) ≡ false → lt (curve_at c m) zeroᶠ ≡ false → halve c (n - i) s s0 s1 ≡ m
  unfolding halve
  halve_root e a b = rw (left, ← is, e, a, b)
