-- A number of the grid is in the field. Assumes nothing.
use mathlib.Core.Path.{◌≡◌, refl}
use mathlib.Core.Bool.{true}
use Prim.Native.Nat.{◌^◌}
use native.Mathlib.Nat.{le_trans}
use lib.Dec.{lit≤}
use lib.IntN.{ℤ, pos}
use lib.Ieee.{Float}
use Rattle.algebra.specs.Order.{Within, within_nat_abs}
use Rattle.number.specs.Exact.{Is}
use Rattle.number.proofs.Operations.{equation→is, neg_is}
use Rattle.number.proofs.Compare.{le_true, le_is}
use Rattle.boundary.specs.Boxes.{limit, is_in_field}
use Rattle.grid.specs.Grid.{OnGrid}

limit_is : Is 10 limit (pos (2 ^ 30))
limit_is = equation→is limit refl

pub grid_in_field : {x : Float} {z : ℤ} → OnGrid x z → is_in_field x ≡ true
grid_in_field {z = z} g =
    let w : Within z (pos (2 ^ 30)) = within_nat_abs (le_trans g.near (lit≤ tt)) in
    rw (le_is (neg_is limit_is) g.is, le_is g.is limit_is, le_true w.low, le_true w.high)
