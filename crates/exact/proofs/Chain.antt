-- The distance of a point from one edge, in whole numbers: how far its roundings carry it. Assumes nothing.
-- E is 2 ^ 1022 units of 2 ^ -1074: then 1 is 2 ^ 52 E, a step is 2 ^ 42 E, and 2 ^ -31 of a step is 2 ^ 11 E.
use mathlib.Core.Path.{◌≡◌, ap}
use mathlib.Core.Logic.{⊎_elim}
use mathlib.Core.List.{List, [], ◌∷◌}
use Prim.Native.Nat.{◌^◌, ◌+◌}
use native.Mathlib.Omega.{arith}
use lib.IntN.{ℤ, pos, neg_ℤ, ◌+ℤ◌, ◌-ℤ◌, ◌*ℤ◌}
use Rattle.algebra.proofs.Quote.{quote}
use Rattle.algebra.specs.Order.{◌≦◌, ◌≺◌, Within, within_of_sq, ≤ℤ-or-<ℤ, mul_le, mul_pos, mul_nonneg, sq_nonneg, <ℤ→≤ℤ}
use Rattle.algebra.proofs.Lin.{le, lt, eq, le_from, lt_from, false_from}
use Rattle.algebra.proofs.Mono.{within_product, mul_cancel, mul_mono, within_cancel, le_of_sq}

-- ---- the parameter. R is dot / l2 rounded, where 1 is 2 ^ 52 E
module _ {E l2 : ℤ} (dot : ℤ) (E0 : pos 0 ≺ E) (L0 : pos 0 ≺ l2) where
  abbrev one : ℤ
  one = pos (2 ^ 52) *ℤ E

  abbrev τ : List ℤ
  τ = E ∷ dot ∷ l2 ∷ []

  EL : pos 0 ≺ E *ℤ l2
  EL = mul_pos E0 L0

  pub quotient_in : pos 0 ≦ dot → dot ≦ l2 → Within (dot *ℤ one) (pos (2 ^ 52) *ℤ (E *ℤ l2))
  quotient_in h k = record {
    low = le_from τ (le (mul_mono E (<ℤ→≤ℤ E0) h) ∷ lt EL ∷ []) (search quote depth 30) (omega arith);
    high = le_from τ (le (mul_mono E (<ℤ→≤ℤ E0) k) ∷ []) (search quote depth 30) (omega arith);
  }

  pub quotient_below : pos (2 ^ 52) *ℤ (E *ℤ l2) ≺ pos (2 ^ 53) *ℤ (E *ℤ l2)
  quotient_below = lt_from τ (lt EL ∷ []) (search quote depth 30) (omega arith)

  module _ (R : ℤ) where
    -- a quotient of 1 or more
    pub far : l2 ≦ dot → pos 1 ≦ E → Within (pos (2 ^ 53) *ℤ (R *ℤ l2 -ℤ dot *ℤ one)) (dot *ℤ one +ℤ pos (2 ^ 52) *ℤ l2) → one -ℤ E ≦ R
    far h e w = mul_cancel l2 (one -ℤ E) R L0
        (le_from (R ∷ τ) (le w.low ∷ le (mul_mono E (<ℤ→≤ℤ E0) h) ∷ le (mul_mono l2 (<ℤ→≤ℤ L0) e) ∷ lt EL ∷ []) (search quote depth 30) (omega arith))

    pub far_near : one -ℤ E ≦ R → R ≦ one → Within (R *ℤ l2 -ℤ l2 *ℤ one) (l2 *ℤ E)
    far_near h k = record {
      low = le_from (R ∷ τ) (le (mul_mono l2 (<ℤ→≤ℤ L0) h) ∷ []) (search quote depth 30) (omega arith);
      high = le_from (R ∷ τ) (le (mul_mono l2 (<ℤ→≤ℤ L0) k) ∷ lt EL ∷ []) (search quote depth 30) (omega arith);
    }

    -- a quotient from 0 to 1, which the rounding may have carried past 1
    module _ (w : Within (pos 2 *ℤ (R *ℤ l2 -ℤ dot *ℤ one)) (E *ℤ l2)) where
      pub mid_near : Within (R *ℤ l2 -ℤ dot *ℤ one) (l2 *ℤ E)
      mid_near = record {
        low = le_from (R ∷ τ) (le w.low ∷ lt EL ∷ []) (search quote depth 30) (omega arith);
        high = le_from (R ∷ τ) (le w.high ∷ lt EL ∷ []) (search quote depth 30) (omega arith);
      }

      pub mid_clamped : dot ≦ l2 → one ≦ R → Within (one *ℤ l2 -ℤ dot *ℤ one) (l2 *ℤ E)
      mid_clamped h k = record {
        low = le_from (R ∷ τ) (le (mul_mono E (<ℤ→≤ℤ E0) h) ∷ lt EL ∷ []) (search quote depth 30) (omega arith);
        high = le_from (R ∷ τ) (le (mul_mono l2 (<ℤ→≤ℤ L0) k) ∷ le w.high ∷ lt EL ∷ []) (search quote depth 30) (omega arith);
      }

-- ---- one axis, from A to B steps. The parameter is t; f is t (B - A), F is A + f, u is P - F, each rounded
pub record Axis (E A B t : ℤ) : Type 0 where
  pub unit : pos 0 ≺ E
  pub a_in : Within A (pos (2 ^ 20))
  pub b_in : Within B (pos (2 ^ 20))
  pub low : pos 0 ≦ t
  pub high : t ≦ pos (2 ^ 52) *ℤ E

module _ {E A B t : ℤ} (x : Axis E A B t) where
  -- a step, 1, and 2 ^ -31 of a step
  abbrev S : ℤ
  S = pos (2 ^ 42) *ℤ E

  abbrev U : ℤ
  U = pos (2 ^ 52) *ℤ E

  abbrev G : ℤ
  G = pos (2 ^ 11) *ℤ E

  abbrev α : List ℤ
  α = E ∷ A ∷ B ∷ t ∷ []

  E1 : pos 0 ≦ E
  E1 = <ℤ→≤ℤ x.unit

  U0 : pos 0 ≺ U
  U0 = lt_from α (lt x.unit ∷ []) (search quote depth 30) (omega arith)

  EE : pos 0 ≺ E *ℤ E
  EE = mul_pos x.unit x.unit

  way_in : Within (B -ℤ A) (pos (2 ^ 21))
  way_in = record {
    low = le_from α (le x.a_in.high ∷ le x.b_in.low ∷ []) (search quote depth 30) (omega arith);
    high = le_from α (le x.a_in.low ∷ le x.b_in.high ∷ []) (search quote depth 30) (omega arith);
  }

  pub product_in : Within (t *ℤ ((B -ℤ A) *ℤ S)) (pos (2 ^ 115) *ℤ (E *ℤ E))
  product_in = record {
    low = le_from α (le (mul_mono E E1 (mul_mono t x.low way_in.low)) ∷ le (mul_mono E E1 x.high) ∷ []) (search quote depth 30) (omega arith);
    high = le_from α (le (mul_mono E E1 (mul_mono t x.low way_in.high)) ∷ le (mul_mono E E1 x.high) ∷ []) (search quote depth 30) (omega arith);
  }

  pub product_below : pos (2 ^ 115) *ℤ (E *ℤ E) ≺ pos (2 ^ 53) *ℤ (G *ℤ U)
  product_below = lt_from α (lt EE ∷ []) (search quote depth 30) (omega arith)

  -- the foot: F is in size, and near A + t (B - A)
  pub record Foot (F : ℤ) : Type 0 where
    pub size : Within F (pos (2 ^ 63 + 2 ^ 62 + 2 ^ 12) *ℤ E)
    pub near : Within (F *ℤ U -ℤ (A *ℤ S *ℤ U +ℤ t *ℤ ((B -ℤ A) *ℤ S))) (G *ℤ U)

  module _ (f : ℤ) (f1 : Within (pos 2 *ℤ (f *ℤ U -ℤ t *ℤ ((B -ℤ A) *ℤ S))) (G *ℤ U)) where
    pub moved_in : Within f (pos (2 ^ 63 + 2 ^ 11) *ℤ E)
    moved_in = within_cancel U U0 (record {
      low = le_from (f ∷ α) (le f1.low ∷ le product_in.low ∷ lt EE ∷ []) (search quote depth 30) (omega arith);
      high = le_from (f ∷ α) (le f1.high ∷ le product_in.high ∷ lt EE ∷ []) (search quote depth 30) (omega arith);
    })

    pub sum_in : Within (A *ℤ S +ℤ f) (pos (2 ^ 63 + 2 ^ 62 + 2 ^ 11) *ℤ E)
    sum_in = record {
      low = le_from (f ∷ α) (le moved_in.low ∷ le (mul_mono E E1 x.a_in.low) ∷ []) (search quote depth 30) (omega arith);
      high = le_from (f ∷ α) (le moved_in.high ∷ le (mul_mono E E1 x.a_in.high) ∷ []) (search quote depth 30) (omega arith);
    }

    pub sum_below : pos (2 ^ 63 + 2 ^ 62 + 2 ^ 11) *ℤ E ≺ pos (2 ^ 53) *ℤ (G *ℤ pos 1)
    sum_below = lt_from α (lt x.unit ∷ []) (search quote depth 30) (omega arith)

    pub foot_moved : (F : ℤ) → Within (pos 2 *ℤ (F *ℤ pos 1 -ℤ (A *ℤ S +ℤ f))) (G *ℤ pos 1) → Foot F
    foot_moved F F1 = record {
      size = record {
        low = le_from (F ∷ f ∷ α) (le F1.low ∷ le sum_in.low ∷ lt x.unit ∷ []) (search quote depth 30) (omega arith);
        high = le_from (F ∷ f ∷ α) (le F1.high ∷ le sum_in.high ∷ lt x.unit ∷ []) (search quote depth 30) (omega arith);
      };
      near = record {
        low = le_from (F ∷ f ∷ α) (le (mul_mono E E1 F1.low) ∷ le f1.low ∷ []) (search quote depth 30) (omega arith);
        high = le_from (F ∷ f ∷ α) (le (mul_mono E E1 F1.high) ∷ le f1.high ∷ []) (search quote depth 30) (omega arith);
      };
    }

  -- the second end itself
  pub foot_end : t ≡ U → Foot (B *ℤ S)
  foot_end e = record {
    size = record {
      low = le_from α (le (mul_mono E E1 x.b_in.low) ∷ lt x.unit ∷ []) (search quote depth 30) (omega arith);
      high = le_from α (le (mul_mono E E1 x.b_in.high) ∷ lt x.unit ∷ []) (search quote depth 30) (omega arith);
    };
    near =
        let same = ap (λ (v : ℤ). v *ℤ (B -ℤ A) *ℤ E) e in
        record { low = le_from α (eq same ∷ lt EE ∷ []) (search quote depth 30) (omega arith); high = le_from α (eq same ∷ lt EE ∷ []) (search quote depth 30) (omega arith) };
  }

  module _ {P F : ℤ} (p_in : Within P (pos (2 ^ 20))) (foot : Foot F) where
    abbrev β : List ℤ
    β = P ∷ F ∷ α

    pub rest_in : Within (P *ℤ S -ℤ F) (pos (2 ^ 64 + 2 ^ 12) *ℤ E)
    rest_in = record {
      low = le_from β (le foot.size.high ∷ le (mul_mono E E1 p_in.low) ∷ []) (search quote depth 30) (omega arith);
      high = le_from β (le foot.size.low ∷ le (mul_mono E E1 p_in.high) ∷ []) (search quote depth 30) (omega arith);
    }

    pub rest_below : pos (2 ^ 64 + 2 ^ 12) *ℤ E ≺ pos (2 ^ 53) *ℤ (pos (2 ^ 12) *ℤ E *ℤ pos 1)
    rest_below = lt_from β (lt x.unit ∷ []) (search quote depth 30) (omega arith)

    module _ (u : ℤ) (u1 : Within (pos 2 *ℤ (u *ℤ pos 1 -ℤ (P *ℤ S -ℤ F))) (pos (2 ^ 12) *ℤ E *ℤ pos 1)) where
      pub away_in : Within u (pos (2 ^ 65) *ℤ E)
      away_in = record {
        low = le_from (u ∷ β) (le rest_in.low ∷ le u1.low ∷ lt x.unit ∷ []) (search quote depth 30) (omega arith);
        high = le_from (u ∷ β) (le rest_in.high ∷ le u1.high ∷ lt x.unit ∷ []) (search quote depth 30) (omega arith);
      }

      away_rounded : Within (u *ℤ U -ℤ ((P -ℤ A) *ℤ S *ℤ U -ℤ t *ℤ ((B -ℤ A) *ℤ S))) (pos (2 ^ 64) *ℤ (E *ℤ E))
      away_rounded = record {
        low = le_from (u ∷ β) (le (mul_mono E E1 u1.low) ∷ le foot.near.high ∷ []) (search quote depth 30) (omega arith);
        high = le_from (u ∷ β) (le (mul_mono E E1 u1.high) ∷ le foot.near.low ∷ []) (search quote depth 30) (omega arith);
      }

      -- t is near D / l2: then u is within 3 G of ((P - A) l2 - (B - A) D) / l2 steps
      pub away_near : (l2 D : ℤ) → pos 0 ≺ l2 → Within (t *ℤ l2 -ℤ D *ℤ U) (l2 *ℤ E) → Within (u *ℤ l2 -ℤ ((P -ℤ A) *ℤ l2 -ℤ (B -ℤ A) *ℤ D) *ℤ S) (pos 3 *ℤ G *ℤ l2)
      away_near l2 D L0 near = combine (B -ℤ A) (P -ℤ A) way_in away_rounded
        where
          combine : (e r : ℤ) → Within e (pos (2 ^ 21)) → Within (u *ℤ U -ℤ (r *ℤ S *ℤ U -ℤ t *ℤ (e *ℤ S))) (pos (2 ^ 64) *ℤ (E *ℤ E)) → Within (u *ℤ l2 -ℤ (r *ℤ l2 -ℤ e *ℤ D) *ℤ S) (pos 3 *ℤ G *ℤ l2)
          combine e r e1 w =
              let m = within_product e1 near in
              let ρ = E ∷ u ∷ t ∷ e ∷ r ∷ l2 ∷ D ∷ [] in
              within_cancel U U0 (record {
                low = le_from ρ (le (mul_mono l2 (<ℤ→≤ℤ L0) w.low) ∷ le (mul_mono E E1 m.high) ∷ []) (search quote depth 30) (omega arith);
                high = le_from ρ (le (mul_mono l2 (<ℤ→≤ℤ L0) w.high) ∷ le (mul_mono E E1 m.low) ∷ []) (search quote depth 30) (omega arith);
              })

-- ---- a point within η, in each coordinate, of a point in the disk of radius d lies in the disk of radius d + 2 η
disk : (u1 u2 w1 w2 d η : ℤ) → Within (u1 -ℤ w1) η → Within (u2 -ℤ w2) η → pos 0 ≦ d → u1 *ℤ u1 +ℤ u2 *ℤ u2 ≦ d *ℤ d → w1 *ℤ w1 +ℤ w2 *ℤ w2 ≦ (d +ℤ pos 2 *ℤ η) *ℤ (d +ℤ pos 2 *ℤ η)
disk u1 u2 w1 w2 d η h1 h2 hd hu =
    let ρ = u1 ∷ u2 ∷ w1 ∷ w2 ∷ d ∷ η ∷ [] in
    let l1 : Within u1 d = within_of_sq u1 hd (le_from ρ (le hu ∷ le (sq_nonneg u2) ∷ []) (search quote depth 30) (omega arith)) in
    let l2 : Within u2 d = within_of_sq u2 hd (le_from ρ (le hu ∷ le (sq_nonneg u1) ∷ []) (search quote depth 30) (omega arith)) in
    le_from ρ (le hu ∷ le (mul_le l1.high h1.high) ∷ le (mul_le l1.low h1.low) ∷ le (mul_le l2.high h2.high) ∷ le (mul_le l2.low h2.low)
    ∷ le (mul_le h1.high h1.low) ∷ le (mul_le h2.high h2.low) ∷ le (sq_nonneg η) ∷ []) (search quote depth 30) (omega arith)

within_swap : (x y : ℤ) {e : ℤ} → Within (x -ℤ y) e → Within (y -ℤ x) e
within_swap x y {e} w = record { low = le_from (x ∷ y ∷ e ∷ []) (le w.high ∷ []) (search quote depth 30) (omega arith); high = le_from (x ∷ y ∷ e ∷ []) (le w.low ∷ []) (search quote depth 30) (omega arith) }

-- ---- the end. d is the root of u1 ² + u2 ², rounded, and u l2 is within 3 g l2 of w: then d l2 is within 128 g l2 of the root of w1 ² + w2 ²
module _ (g U d u1 u2 w1 w2 l2 : ℤ) (g0 : pos 0 ≺ g) (Ug : U ≦ g *ℤ g) (L0 : pos 0 ≺ l2) (d0 : pos 0 ≦ d)
    (b1 : Within u1 (pos (2 ^ 54) *ℤ g)) (b2 : Within u2 (pos (2 ^ 54) *ℤ g))
    (n1 : Within (u1 *ℤ l2 -ℤ w1) (pos 3 *ℤ g *ℤ l2)) (n2 : Within (u2 *ℤ l2 -ℤ w2) (pos 3 *ℤ g *ℤ l2))
    (near : Within (pos (2 ^ 50) *ℤ (d *ℤ d -ℤ (u1 *ℤ u1 +ℤ u2 *ℤ u2))) (u1 *ℤ u1 +ℤ u2 *ℤ u2 +ℤ pos (2 ^ 53) *ℤ U)) where
  abbrev P : ℤ
  P = u1 *ℤ u1 +ℤ u2 *ℤ u2

  gg : pos 0 ≺ g *ℤ g
  gg = mul_pos g0 g0

  LL : pos 0 ≺ l2 *ℤ l2
  LL = mul_pos L0 L0

  gd : pos 0 ≦ g *ℤ d
  gd = mul_nonneg (<ℤ→≤ℤ g0) d0

  P0 : pos 0 ≦ P
  P0 = le_from (u1 ∷ u2 ∷ []) (le (sq_nonneg u1) ∷ le (sq_nonneg u2) ∷ []) (search quote depth 30) (omega arith)

  square_in : (u : ℤ) → Within u (pos (2 ^ 54) *ℤ g) → u *ℤ u ≦ pos (2 ^ 108) *ℤ (g *ℤ g)
  square_in u b = let m = within_product b b in le_from (u ∷ g ∷ []) (le m.high ∷ []) (search quote depth 30) (omega arith)

  d_rough : d *ℤ d ≦ pos 2 *ℤ P +ℤ pos 8 *ℤ U
  d_rough = go P (d *ℤ d) P0 near.high
    where
      go : (p dd : ℤ) → pos 0 ≦ p → pos (2 ^ 50) *ℤ (dd -ℤ p) ≦ p +ℤ pos (2 ^ 53) *ℤ U → dd ≦ pos 2 *ℤ p +ℤ pos 8 *ℤ U
      go p dd p0 h = le_from (p ∷ dd ∷ U ∷ []) (le p0 ∷ le h ∷ []) (search quote depth 30) (omega arith)

  d_in : d ≦ pos (2 ^ 56) *ℤ g
  d_in = le_of_sq d (le_from (g ∷ []) (lt g0 ∷ []) (search quote depth 30) (omega arith))
      (le_from (g ∷ U ∷ d ∷ u1 ∷ u2 ∷ []) (le d_rough ∷ le (square_in u1 b1) ∷ le (square_in u2 b2) ∷ le Ug ∷ lt gg ∷ []) (search quote depth 30) (omega arith))

  dd_in : d *ℤ d ≦ pos (2 ^ 56) *ℤ (g *ℤ d)
  dd_in = le_from (g ∷ d ∷ []) (le (mul_mono d d0 d_in) ∷ []) (search quote depth 30) (omega arith)

  P-under : P ≦ (d +ℤ pos 40 *ℤ g) *ℤ (d +ℤ pos 40 *ℤ g)
  P-under = go P near.low
    where
      go : (p : ℤ) → neg_ℤ (p +ℤ pos (2 ^ 53) *ℤ U) ≦ pos (2 ^ 50) *ℤ (d *ℤ d -ℤ p) → p ≦ (d +ℤ pos 40 *ℤ g) *ℤ (d +ℤ pos 40 *ℤ g)
      go p h = le_from (p ∷ d ∷ g ∷ U ∷ []) (le h ∷ le dd_in ∷ le gd ∷ le Ug ∷ lt gg ∷ []) (search quote depth 30) (omega arith)

  pub above : w1 *ℤ w1 +ℤ w2 *ℤ w2 ≦ (d +ℤ pos 128 *ℤ g) *ℤ (d +ℤ pos 128 *ℤ g) *ℤ (l2 *ℤ l2)
  above =
      let r = (d +ℤ pos 40 *ℤ g) *ℤ l2 in
      let r0 : pos 0 ≦ r = mul_nonneg {a = d +ℤ pos 40 *ℤ g} (le_from (d ∷ g ∷ []) (le d0 ∷ lt g0 ∷ []) (search quote depth 30) (omega arith)) (<ℤ→≤ℤ L0) in
      let inside : (u1 *ℤ l2) *ℤ (u1 *ℤ l2) +ℤ (u2 *ℤ l2) *ℤ (u2 *ℤ l2) ≦ r *ℤ r = le_from (u1 ∷ u2 ∷ d ∷ g ∷ l2 ∷ []) (le (mul_mono (l2 *ℤ l2) (<ℤ→≤ℤ LL) P-under) ∷ []) (search quote depth 30) (omega arith) in
      let k = disk (u1 *ℤ l2) (u2 *ℤ l2) w1 w2 r (pos 3 *ℤ g *ℤ l2) n1 n2 r0 inside in
      le_from (w1 ∷ w2 ∷ d ∷ g ∷ l2 ∷ []) (le k ∷ le (mul_mono (l2 *ℤ l2) (<ℤ→≤ℤ LL) gd) ∷ lt (mul_pos gg LL) ∷ []) (search quote depth 30) (omega arith)

  pub below : pos 128 *ℤ g ≦ d → (d -ℤ pos 128 *ℤ g) *ℤ (d -ℤ pos 128 *ℤ g) *ℤ (l2 *ℤ l2) ≦ w1 *ℤ w1 +ℤ w2 *ℤ w2
  below out = ⊎_elim (λ k. k) (λ k. absurd (clash k)) (≤ℤ-or-<ℤ ((d -ℤ pos 128 *ℤ g) *ℤ (d -ℤ pos 128 *ℤ g) *ℤ (l2 *ℤ l2)) (w1 *ℤ w1 +ℤ w2 *ℤ w2))
    where
      far : (p : ℤ) → p ≦ (d -ℤ pos 122 *ℤ g) *ℤ (d -ℤ pos 122 *ℤ g) → pos (2 ^ 50) *ℤ (d *ℤ d -ℤ p) ≦ p +ℤ pos (2 ^ 53) *ℤ U → ⊥
      far p h k = false_from (p ∷ d ∷ g ∷ U ∷ []) (le h ∷ le k ∷ le dd_in ∷ le (mul_mono g (<ℤ→≤ℤ g0) out) ∷ le Ug ∷ lt gg ∷ []) (search quote depth 30) (omega arith)

      clash : w1 *ℤ w1 +ℤ w2 *ℤ w2 ≺ (d -ℤ pos 128 *ℤ g) *ℤ (d -ℤ pos 128 *ℤ g) *ℤ (l2 *ℤ l2) → ⊥
      clash k =
          let r = (d -ℤ pos 128 *ℤ g) *ℤ l2 in
          let r0 : pos 0 ≦ r = mul_nonneg {a = d -ℤ pos 128 *ℤ g} (le_from (d ∷ g ∷ []) (le out ∷ []) (search quote depth 30) (omega arith)) (<ℤ→≤ℤ L0) in
          let inside : w1 *ℤ w1 +ℤ w2 *ℤ w2 ≦ r *ℤ r = le_from (w1 ∷ w2 ∷ d ∷ g ∷ l2 ∷ []) (lt k ∷ []) (search quote depth 30) (omega arith) in
          let m = disk w1 w2 (u1 *ℤ l2) (u2 *ℤ l2) r (pos 3 *ℤ g *ℤ l2) (within_swap (u1 *ℤ l2) w1 n1) (within_swap (u2 *ℤ l2) w2 n2) r0 inside in
          far P (mul_cancel (l2 *ℤ l2) P ((d -ℤ pos 122 *ℤ g) *ℤ (d -ℤ pos 122 *ℤ g)) LL (le_from (u1 ∷ u2 ∷ d ∷ g ∷ l2 ∷ []) (le m ∷ []) (search quote depth 30) (omega arith))) near.high
