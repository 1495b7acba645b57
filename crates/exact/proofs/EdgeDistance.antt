-- On the grid the distance of a point from an edge is within 2 ^ -24 of a step of the exact one. Assumes nothing.
use mathlib.Core.Path.{◌≡◌, refl, sym, ap, subst}
use mathlib.Core.List.{List, [], ◌∷◌}
use mathlib.Core.Bool.{Bool, true, false, cond}
use Prim.Native.Nat.{ℕ, ◌+◌, ◌*◌, ◌^◌, ◌≤◌, ◌<◌}
use native.Mathlib.Nat.{le_trans, add-le-add, mul-le-mul, mul-le-mul_right, zero-lt-suc}
use native.Mathlib.Omega.{arith}
use lib.Dec.{T, lit≤}
use lib.IntN.{ℤ, pos, negsuc, nat_abs, ◌+ℤ◌, ◌-ℤ◌, ◌*ℤ◌}
use lib.Ieee.{Float, binary64, add, sub, mul, div, eq}
use Rattle.algebra.specs.Int.{one-*ℤ}
use Rattle.algebra.proofs.Quote.{quote}
use Rattle.algebra.specs.Order.{◌≦◌, ◌≺◌, ord, Within, within_nat_abs, le_of_within, nat_abs_mul, ≤ℤ-trans, <ℤ→≤ℤ, mul_pos, nonneg_nat}
use Rattle.algebra.proofs.Lin as L
use Rattle.algebra.proofs.Lin.{le_from}
use Rattle.algebra.proofs.Mono.{mul_mono, mul_cancel}
use Rattle.number.specs.Exact.{Is, Sized, one}
use Rattle.number.specs.Rounding.{Result}
use Rattle.number.specs.Hypot.{hypot_of}
use Rattle.number.proofs.Operations.{zero_is, rescale}
use Rattle.number.proofs.ExactLaws.{add_sized, add_result, sub_result, mul_result, div_result}
use Rattle.number.proofs.RoundingLaws.{rounded_within}
use Rattle.number.proofs.Compare.{lt_is, lt_true, eq→}
use Rattle.number.proofs.HypotError.{HypotNear, hypot_relative}
use Rattle.boundary.specs.declared.Point.{Point}
use Rattle.boundary.specs.declared.Edge.{Edge}
use Rattle.boundary.specs.Line.{way_of, squares_of, param_of, along_of, foot_of, line_near}
use Rattle.grid.specs.Grid.{OnGrid}
use Rattle.grid.specs.Whole.{PointZ, EdgeZ}
use Rattle.exact.specs.Grid.{PointOn, EdgeOn}
use Rattle.grid.specs.Distance.{Region, region_of, dot_z, length_z, den_of, num_z, den_z}
use Rattle.exact.specs.Distance.{step, tolerance, Near24}
use Rattle.grid.specs.Distance.Region.{before_start, beside, past_end}
use Rattle.exact.proofs.OneEdge.{product}
use Rattle.grid.proofs.LeastDistance.{reach_square, den_nonneg}
use Rattle.grid.proofs.Regions.{in_region, reach}
use Rattle.exact.proofs.Parameter.{U, E, U0, E0, one_is, Param, clamped}
use Rattle.exact.proofs.Chain as C
use Rattle.grid.proofs.GridLaws.{difference}

-- a number of steps, in units of 2 ^ -1074
in_units : {x : Float} {z : ℤ} {n : ℕ} → Sized 10 n x z → Sized 1074 (n * 2 ^ 1064) x (z *ℤ step)
in_units {z = z} h = record { is = rescale 1064 h.is; near = rw (nat_abs_mul z step) (mul-le-mul_right (2 ^ 1064) h.near) }

-- ---- one axis: from the foot to the point
-- u is x units, and within 3 × 2 ^ -31 of W / l2 steps
record DistanceWith (u : Float) (l2 W : ℤ) : Type 0 where
  x : ℤ
  is : Is 1074 u x
  size : Within x (pos (2 ^ 1087))
  near : Within (x *ℤ l2 -ℤ W *ℤ step) (pos 3 *ℤ pos (2 ^ 1033) *ℤ l2)

module _ {a b t : Float} {A B l2 D : ℤ} (ha : OnGrid a A) (hb : OnGrid b B) (pt : Param t l2 D) where
  one0 : pos 0 ≺ pos 1
  one0 = record { lt = tt }

  axis : C.Axis E A B pt.x
  axis = record { unit = E0; a_in = within_nat_abs ha.near; b_in = within_nat_abs hb.near; low = pt.low; high = pt.high }

  record Foot (q : Float) : Type 0 where
    y : ℤ
    is : Is 1074 q y
    at : C.Foot axis y

  moved : Foot (add binary64 a (mul binary64 t (sub binary64 b a)))
  moved =
      let t_in : nat_abs pt.x ≤ 2 ^ 1074 = le_of_within (record { low = ≤ℤ-trans (record { le = tt }) pt.low; high = pt.high }) in
      let way = in_units (difference hb ha) in
      let f = mul_result pt.is way.is (le_trans (mul-le-mul t_in way.near) (lit≤ tt)) in
      let f1 = rounded_within 1033 U0 f.rnd (C.product_in axis) (C.product_below axis) in
      let f_in : nat_abs f.R ≤ (2 ^ 63 + 2 ^ 11) * 2 ^ 1022 = le_of_within (C.moved_in axis f.R f1) in
      let q = add_result (in_units ha).is f.is (le_trans (add-le-add (in_units ha).near f_in) (lit≤ tt)) in
      record { y = q.R; is = q.is; at = C.foot_moved axis f.R f1 q.R (rounded_within 1033 one0 q.rnd (C.sum_in axis f.R f1) (C.sum_below axis f.R f1)) }

  foot : Foot (along_of a b t)
  unfolding along_of
  foot = go (eq t one) refl
    where
      go : (c : Bool) → eq t one ≡ c → Foot (cond c b (add binary64 a (mul binary64 t (sub binary64 b a))))
      go true e = record { y = B *ℤ step; is = (in_units hb).is; at = C.foot_end axis (eq→ pt.is one_is (subst T (sym e) tt)) }
      go false e = moved

  away : {p : Float} {P : ℤ} → OnGrid p P → pos 0 ≺ l2 → DistanceWith (sub binary64 p (along_of a b t)) l2 ((P -ℤ A) *ℤ l2 -ℤ (B -ℤ A) *ℤ D)
  away {P = P} hp L0 =
      let p_in : Within P (pos (2 ^ 20)) = within_nat_abs hp.near in
      let y_in : nat_abs foot.y ≤ (2 ^ 63 + 2 ^ 62 + 2 ^ 12) * 2 ^ 1022 = le_of_within foot.at.size in
      let u = sub_result (in_units hp).is foot.is (le_trans (add-le-add (in_units hp).near y_in) (lit≤ tt)) in
      let u1 = rounded_within 1034 one0 u.rnd (C.rest_in axis p_in foot.at) (C.rest_below axis p_in foot.at) in
      record { x = u.R; is = u.is; size = C.away_in axis p_in foot.at u.R u1; near = C.away_near axis p_in foot.at u.R u1 l2 D L0 pt.near }

-- ---- fractions: (w1 ² + w2 ²) / l ² is num / den
module _ (num den w1 w2 s l K : ℤ) (l0 : pos 0 ≺ l) (d0 : pos 0 ≦ den) (same : (w1 *ℤ w1 +ℤ w2 *ℤ w2) *ℤ den ≡ num *ℤ (l *ℤ l)) where
  abbrev σ : List ℤ
  σ = num ∷ den ∷ w1 ∷ w2 ∷ s ∷ l ∷ K ∷ []

  scaled : (w1 *ℤ w1 +ℤ w2 *ℤ w2) *ℤ den *ℤ (s *ℤ s) ≡ num *ℤ (l *ℤ l) *ℤ (s *ℤ s)
  scaled = ap (λ (t : ℤ). t *ℤ (s *ℤ s)) same

  fraction_above : (w1 *ℤ s) *ℤ (w1 *ℤ s) +ℤ (w2 *ℤ s) *ℤ (w2 *ℤ s) ≦ K *ℤ (l *ℤ l) → num *ℤ (s *ℤ s) ≦ K *ℤ den
  fraction_above h = mul_cancel (l *ℤ l) (num *ℤ (s *ℤ s)) (K *ℤ den) (mul_pos l0 l0) (le_from σ (L.eq scaled ∷ L.le (mul_mono den d0 h) ∷ []) (search quote depth 30) (omega arith))

  fraction_below : K *ℤ (l *ℤ l) ≦ (w1 *ℤ s) *ℤ (w1 *ℤ s) +ℤ (w2 *ℤ s) *ℤ (w2 *ℤ s) → K *ℤ den ≦ num *ℤ (s *ℤ s)
  fraction_below h = mul_cancel (l *ℤ l) (K *ℤ den) (num *ℤ (s *ℤ s)) (mul_pos l0 l0) (le_from σ (L.eq scaled ∷ L.le (mul_mono den d0 h) ∷ []) (search quote depth 30) (omega arith))

-- ---- the edge
module _ {e : Edge} {f : EdgeZ} {p : Point} {q : PointZ} (G : EdgeOn e f) (P : PointOn p q) (L0 : pos 0 ≺ length_z f) where
  abbrev l2 : ℤ
  l2 = length_z f

  abbrev dot : ℤ
  dot = dot_z f q

  way_x_lem : Sized 10 (2 ^ 21) (way_of e).x (f.b.x -ℤ f.a.x)
  way_x_lem = difference G.b.x G.a.x

  way_y_lem : Sized 10 (2 ^ 21) (way_of e).y (f.b.y -ℤ f.a.y)
  way_y_lem = difference G.b.y G.a.y

  length_is : Sized 20 (2 ^ 43) (squares_of (way_of e)) l2
  length_is = add_sized (product way_x_lem way_x_lem) (product way_y_lem way_y_lem) (lit≤ tt) (lit≤ tt)

  pub den_small : den_z f q ≦ pos (2 ^ 43)
  unfolding den_z
  den_small = go (region_of f q)
    where
      go : (s : Region) → den_of s f ≦ pos (2 ^ 43)
      go before_start = record { le = tt }
      go beside = (within_nat_abs length_is.near).high
      go past_end = record { le = tt }

  abbrev dot_of : Float
  dot_of = add binary64 (mul binary64 (sub binary64 p.x e.a.x) (way_of e).x) (mul binary64 (sub binary64 p.y e.a.y) (way_of e).y)

  dot_is : Sized 20 (2 ^ 43) dot_of dot
  dot_is = add_sized (product (difference P.x G.a.x) way_x_lem) (product (difference P.y G.a.y) way_y_lem) (lit≤ tt) (lit≤ tt)

  divided : Result (div binary64 dot_of (squares_of (way_of e))) (dot *ℤ U) l2
  divided =
      let size = nonneg_nat (<ℤ→≤ℤ L0) in
      let l0 : 0 < nat_abs l2 = some l2 L0 in
      rw (one-*ℤ dot, size) at (div_result 20 0 1074 refl false dot_is.is (subst (Is 20 (squares_of (way_of e))) (sym size) length_is.is) l0 (le_trans dot_is.near (le_trans (lit≤ {n = 1 * 2 ^ 1022} tt) (mul-le-mul_right (2 ^ 1022) l0))))
    where
      some : (w : ℤ) → pos 0 ≺ w → 0 < nat_abs w
      some (pos n) h = omega ord
      some (negsuc n) h = zero-lt-suc n

  param : Param (param_of e p) l2 (reach (region_of f q) dot l2)
  unfolding param_of
  param = rw (lt_is (zero_is 20) length_is.is, lt_true L0) (clamped dot l2 L0 divided (region_of f q) (in_region dot l2))

  -- l2 times the way from the edge's nearest point to q, of each axis
  abbrev way_x : ℤ
  way_x = (q.x -ℤ f.a.x) *ℤ l2 -ℤ (f.b.x -ℤ f.a.x) *ℤ reach (region_of f q) dot l2

  abbrev way_y : ℤ
  way_y = (q.y -ℤ f.a.y) *ℤ l2 -ℤ (f.b.y -ℤ f.a.y) *ℤ reach (region_of f q) dot l2

  away_x : DistanceWith (sub binary64 p.x (along_of e.a.x e.b.x (param_of e p))) l2 way_x
  away_x = away G.a.x G.b.x param P.x L0

  away_y : DistanceWith (sub binary64 p.y (along_of e.a.y e.b.y (param_of e p))) l2 way_y
  away_y = away G.a.y G.b.y param P.y L0

  root_near : HypotNear (hypot_of (sub binary64 p.x (along_of e.a.x e.b.x (param_of e p))) (sub binary64 p.y (along_of e.a.y e.b.y (param_of e p)))) away_x.x away_y.x
  root_near = hypot_relative away_x.is away_y.is (le_trans (le_of_within away_x.size) (lit≤ tt)) (le_trans (le_of_within away_y.size) (lit≤ tt))

  pub edge_near : Near24 (line_near e p).d (num_z f q) (den_z f q)
  unfolding line_near foot_of
  edge_near =
      let d = root_near.d in
      let g0 : pos 0 ≺ pos (2 ^ 1033) = record { lt = tt } in
      let Ug : U ≦ pos (2 ^ 1033) *ℤ pos (2 ^ 1033) = record { le = tt } in
      record {
        u = d;
        is = root_near.is;
        plus = root_near.plus;
        above = record {
          holds = fraction_above (num_z f q) (den_z f q) way_x way_y step l2 ((d +ℤ tolerance) *ℤ (d +ℤ tolerance)) L0 (den_nonneg f q L0) (reach_square f q)
              (C.above (pos (2 ^ 1033)) U d away_x.x away_y.x (way_x *ℤ step) (way_y *ℤ step) l2 g0 Ug L0 root_near.plus away_x.size away_y.size away_x.near away_y.near root_near.near);
        };
        below = record {
          holds = λ k. fraction_below (num_z f q) (den_z f q) way_x way_y step l2 ((d -ℤ tolerance) *ℤ (d -ℤ tolerance)) L0 (den_nonneg f q L0) (reach_square f q)
              (C.below (pos (2 ^ 1033)) U d away_x.x away_y.x (way_x *ℤ step) (way_y *ℤ step) l2 g0 Ug L0 root_near.plus away_x.size away_y.size away_x.near away_y.near root_near.near k);
        };
      }
