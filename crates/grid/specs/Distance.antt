-- The *exact distance* (document 01): to the nearest point of any edge. Its square, in square steps, is a fraction num / den. Definitions only.
use Rattle.std.specs.Prelude.{◌≡◌, cond, List, ℤ, pos, ◌+ℤ◌, ◌-ℤ◌, ◌*ℤ◌}
use Rattle.std.specs.Int.Signed.{lt_z}
use Rattle.algebra.specs.Order.{◌≦◌, ◌≺◌}
use Rattle.lists.specs.Lists.{Every, Some}
use Rattle.grid.specs.Whole.{PointZ, EdgeZ, cross_z}

-- ---- what it is
-- the points of the closed edge are a + (m / n) (b - a), with m / n from 0 to 1
pub record Ratio (m n : ℤ) : Type 0 where
  pub low : pos 0 ≦ m
  pub high : m ≦ n
  pub above : pos 0 ≺ n

abbrev pub squares_z : ℤ → ℤ → ℤ
squares_z x y = x *ℤ x +ℤ y *ℤ y

-- n ² times the squared distance of q from that point
abbrev pub away_z : EdgeZ → PointZ → ℤ → ℤ → ℤ
away_z f q m n = squares_z ((q.x -ℤ f.a.x) *ℤ n -ℤ (f.b.x -ℤ f.a.x) *ℤ m) ((q.y -ℤ f.a.y) *ℤ n -ℤ (f.b.y -ℤ f.a.y) *ℤ m)

-- no point of the edge is nearer than √(num / den)
pub record NoneNearer (f : EdgeZ) (q : PointZ) (num den : ℤ) : Type 0 where
  pub holds : {m n : ℤ} → Ratio m n → num *ℤ (n *ℤ n) ≦ away_z f q m n *ℤ den

-- and one is as near
pub record LeastDistance (f : EdgeZ) (q : PointZ) (num den : ℤ) : Type 0 where
  pub above : pos 0 ≺ den
  pub none_nearer : NoneNearer f q num den
  pub m : ℤ
  pub n : ℤ
  pub ratio : Ratio m n
  pub as_near : num *ℤ (n *ℤ n) ≡ away_z f q m n *ℤ den

-- all edges: √(num / den) steps are the distance to the nearest point of one of them, and no point of any is nearer
pub record ExactDistance (fs : List EdgeZ) (q : PointZ) (num den : ℤ) : Type 0 where
  pub of_an_edge : Some (λ f. LeastDistance f q num den) fs
  pub least : Every (λ f. NoneNearer f q num den) fs

-- ---- of one edge, worked out: the fraction `num_z` / `den_z`
-- |q - p| ²
abbrev pub apart_z : PointZ → PointZ → ℤ
apart_z p q = squares_z (q.x -ℤ p.x) (q.y -ℤ p.y)

-- the edge's length, squared
abbrev pub length_z : EdgeZ → ℤ
length_z f = apart_z f.a f.b

-- (q - a) · (b - a)
abbrev pub dot_z : EdgeZ → PointZ → ℤ
dot_z f q = (q.x -ℤ f.a.x) *ℤ (f.b.x -ℤ f.a.x) +ℤ (q.y -ℤ f.a.y) *ℤ (f.b.y -ℤ f.a.y)

-- where a point stands, seen along the edge: up to its first end, beside it, or from its second end on
pub data Region : Type 0 where
  before_start : Region
  beside : Region
  past_end : Region

abbrev pub region_of : EdgeZ → PointZ → Region
region_of f q = cond (lt_z (pos 0) (dot_z f q)) (cond (lt_z (dot_z f q) (length_z f)) beside past_end) before_start

-- the squared distance for each: |q - a| ², the height over the edge ((b - a) × (q - a)) ² / |b - a| ², |q - b| ²
abbrev pub num_of : Region → EdgeZ → PointZ → ℤ
num_of before_start f q = apart_z f.a q
num_of beside f q = cross_z f q *ℤ cross_z f q
num_of past_end f q = apart_z f.b q

abbrev pub den_of : Region → EdgeZ → ℤ
den_of before_start f = pos 1
den_of beside f = length_z f
den_of past_end f = pos 1

unfoldable pub num_z : EdgeZ → PointZ → ℤ
num_z f q = num_of (region_of f q) f q

unfoldable pub den_z : EdgeZ → PointZ → ℤ
den_z f q = den_of (region_of f q) f
