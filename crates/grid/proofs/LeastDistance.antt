-- `num_z` / `den_z` is the squared distance to the nearest point of the closed edge, where it has a length. Assumes nothing.
use mathlib.Core.Path.{◌≡◌, sym}
use mathlib.Core.List.{List, [], ◌∷◌}
use native.Mathlib.Omega.{arith}
use lib.IntN.{ℤ, pos, ◌+ℤ◌, ◌-ℤ◌, ◌*ℤ◌}
use Rattle.algebra.proofs.Quote.{quote, ring}
use Rattle.algebra.specs.Order.{◌≦◌, ◌≺◌, <ℤ→≤ℤ, +ℤ-mono, mul_nonneg, sub_nonneg, sq_nonneg, le_by_rest}
use Rattle.algebra.proofs.Lin.{le, le_from}
use Rattle.grid.specs.Whole.{PointZ, EdgeZ, cross_z}
use Rattle.grid.specs.Distance.{Region, region_of, dot_z, length_z, num_of, den_of, num_z, den_z, Ratio, away_z, LeastDistance}
use Rattle.grid.specs.Distance.Region.{before_start, beside, past_end}
use Rattle.grid.proofs.Regions.{InRegion, in_region, reach, reach_ratio}

module _ (f : EdgeZ) (q : PointZ) where
  abbrev dot : ℤ
  dot = dot_z f q

  abbrev l2 : ℤ
  l2 = length_z f

  abbrev σ : List ℤ
  σ = f.a.x ∷ f.a.y ∷ f.b.x ∷ f.b.y ∷ q.x ∷ q.y ∷ []

  -- it is the squared distance from a + (reach / l2) (b - a)
  pub reach_square : away_z f q (reach (region_of f q) dot l2) l2 *ℤ den_z f q ≡ num_z f q *ℤ (l2 *ℤ l2)
  unfolding num_z den_z cross_z
  reach_square = go (region_of f q)
    where
      go : (s : Region) → away_z f q (reach s dot l2) l2 *ℤ den_of s f ≡ num_of s f q *ℤ (l2 *ℤ l2)
      go before_start = ring σ (search quote depth 30) tt
      go beside = ring σ (search quote depth 30) tt
      go past_end = ring σ (search quote depth 30) tt

  length_nonneg : pos 0 ≦ l2
  length_nonneg = +ℤ-mono (sq_nonneg (f.b.x -ℤ f.a.x)) (sq_nonneg (f.b.y -ℤ f.a.y))

  no_nearer : {m n : ℤ} → Ratio m n → num_z f q *ℤ (n *ℤ n) ≦ away_z f q m n *ℤ den_z f q
  unfolding num_z den_z cross_z
  no_nearer {m} {n} t = go (region_of f q) (in_region dot l2)
    where
      twice : {x y : ℤ} → pos 0 ≦ x → pos 0 ≦ y → pos 0 ≦ pos 2 *ℤ x +ℤ y
      twice {x} {y} h k = le_from (x ∷ y ∷ []) (le h ∷ le k ∷ []) (search quote depth 30) (omega arith)

      go : (s : Region) → InRegion dot l2 s → num_of s f q *ℤ (n *ℤ n) ≦ away_z f q m n *ℤ den_of s f
      go before_start h = le_by_rest (pos 2 *ℤ ((pos 0 -ℤ dot) *ℤ (m *ℤ n)) +ℤ m *ℤ m *ℤ l2)
          (twice (mul_nonneg (sub_nonneg h) (mul_nonneg t.low (<ℤ→≤ℤ t.above))) (mul_nonneg (sq_nonneg m) length_nonneg)) (ring (m ∷ n ∷ σ) (search quote depth 30) tt)
      go beside h = le_by_rest ((n *ℤ dot -ℤ m *ℤ l2) *ℤ (n *ℤ dot -ℤ m *ℤ l2)) (sq_nonneg (n *ℤ dot -ℤ m *ℤ l2)) (ring (m ∷ n ∷ σ) (search quote depth 30) tt)
      go past_end h = le_by_rest (pos 2 *ℤ ((n -ℤ m) *ℤ n *ℤ (dot -ℤ l2)) +ℤ (n -ℤ m) *ℤ (n -ℤ m) *ℤ l2)
          (twice (mul_nonneg (mul_nonneg (sub_nonneg t.high) (<ℤ→≤ℤ t.above)) (sub_nonneg h.1)) (mul_nonneg (sq_nonneg (n -ℤ m)) length_nonneg)) (ring (m ∷ n ∷ σ) (search quote depth 30) tt)

  pub den_above : pos 0 ≺ length_z f → pos 0 ≺ den_z f q
  unfolding den_z
  den_above L0 = go (region_of f q)
    where
      go : (s : Region) → pos 0 ≺ den_of s f
      go before_start = record { lt = tt }
      go beside = L0
      go past_end = record { lt = tt }

  pub den_nonneg : pos 0 ≺ length_z f → pos 0 ≦ den_z f q
  den_nonneg L0 = <ℤ→≤ℤ (den_above L0)

  pub least_distance : pos 0 ≺ length_z f → LeastDistance f q (num_z f q) (den_z f q)
  least_distance L0 = record {
    above = den_above L0;
    none_nearer = record { holds = no_nearer };
    m = reach (region_of f q) dot l2;
    n = l2;
    ratio = reach_ratio dot l2 L0 (region_of f q) (in_region dot l2);
    as_near = sym reach_square;
  }
