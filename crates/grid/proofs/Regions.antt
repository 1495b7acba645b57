-- Where a point stands along an edge: up to its first end, beside it, or from its second end on. Assumes nothing.
use mathlib.Core.Path.{◌≡◌, refl}
use mathlib.Core.Bool.{Bool, true, false, cond}
use lib.IntN.{ℤ, pos}
use lib.Signed.{lt_z}
use Rattle.algebra.specs.Order.{◌≦◌, ◌≺◌, ≤ℤ-of-eq, <ℤ→≤ℤ}
use Rattle.number.proofs.Compare.{is_lt, not_lt}
use Rattle.grid.specs.Distance.{Region, Ratio}
use Rattle.grid.specs.Distance.Region.{before_start, beside, past_end}

-- what each says of the dot product and the squared length
abbrev pub InRegion : ℤ → ℤ → Region → Type 0
InRegion dot l2 before_start = dot ≦ pos 0
InRegion dot l2 beside = (pos 0 ≺ dot) × (dot ≺ l2)
InRegion dot l2 past_end = (pos 0 ≺ dot) × (l2 ≦ dot)

pub in_region : (dot l2 : ℤ) → InRegion dot l2 (cond (lt_z (pos 0) dot) (cond (lt_z dot l2) beside past_end) before_start)
in_region dot l2 = go (lt_z (pos 0) dot) refl (lt_z dot l2) refl
  where
    go : (b : Bool) → lt_z (pos 0) dot ≡ b → (c : Bool) → lt_z dot l2 ≡ c → InRegion dot l2 (cond b (cond c beside past_end) before_start)
    go false e c f = not_lt e
    go true e false f = (is_lt e, not_lt f)
    go true e true f = (is_lt e, is_lt f)

-- the dot product, clamped: the nearest point of the edge is a + (reach / l2) (b - a)
abbrev pub reach : Region → ℤ → ℤ → ℤ
reach before_start dot l2 = pos 0
reach beside dot l2 = dot
reach past_end dot l2 = l2

pub reach_ratio : (dot l2 : ℤ) → pos 0 ≺ l2 → (s : Region) → InRegion dot l2 s → Ratio (reach s dot l2) l2
reach_ratio dot l2 L0 before_start h = record { low = record { le = tt }; high = <ℤ→≤ℤ L0; above = L0 }
reach_ratio dot l2 L0 beside h = record { low = <ℤ→≤ℤ h.0; high = <ℤ→≤ℤ h.1; above = L0 }
reach_ratio dot l2 L0 past_end h = record { low = <ℤ→≤ℤ L0; high = ≤ℤ-of-eq refl; above = L0 }
