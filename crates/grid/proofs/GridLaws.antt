-- Numbers on the grid: finite, within ±1,024 µm, and their differences exact. Assumes nothing.
use Prim.Native.Nat.{◌^◌}
use mathlib.Core.Bool.{true, false}
use lib.Dec.{T, lit≤}
use mathlib.Core.Path.{refl, ◌≡◌}
use lib.IntN.{ℤ, pos, neg_ℤ, ◌-ℤ◌}
use lib.Ieee.{Float, fin, le, nan, inf, binary64, sub}
use Rattle.algebra.specs.Order.{within_nat_abs}
use Rattle.number.specs.Exact.{Is, Sized}
use Rattle.number.proofs.Operations.{equation→is}
use Rattle.number.proofs.OrderLaws.{order_is}
use Rattle.grid.specs.Grid.{OnGrid}
use lib.Ieee.Scale.{finite}
use Rattle.number.proofs.ExactLaws.{sub_sized}

-- a number on the grid is finite
pub grid_finite : {x : Float} {z : ℤ} → OnGrid x z → finite x ≡ true
grid_finite {x = nan} g = absurd g.is.has
grid_finite {x = inf s} g = absurd g.is.has
grid_finite {x = fin s m e} g = refl

-- ±1,024 µm are 2 ^ 20 steps
low_is : Is 10 (fin true 1 (pos 10)) (neg_ℤ (pos (2 ^ 20)))
low_is = equation→is (fin true 1 (pos 10)) refl

high_is : Is 10 (fin false 1 (pos 10)) (pos (2 ^ 20))
high_is = equation→is (fin false 1 (pos 10)) refl

pub on_grid_within : {x : Float} {z : ℤ} → OnGrid x z → T (le (fin true 1 (pos 10)) x) × T (le x (fin false 1 (pos 10)))
on_grid_within {x} {z} G =
    let w = within_nat_abs {x = z} G.near in
    (order_is low_is G.is w.low, order_is G.is high_is w.high)

-- a difference is exact
pub difference : {x y : Float} {z w : ℤ} → OnGrid x z → OnGrid y w → Sized 10 (2 ^ 21) (sub binary64 x y) (z -ℤ w)
difference h g = sub_sized h g (lit≤ tt) (lit≤ tt)
