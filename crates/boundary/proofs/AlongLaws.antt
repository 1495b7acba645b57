-- The nearest point of an edge, of one axis: t is from 0 to 1, and the point at t lies between the edge's ends, widened by a hair, over the whole field. Assumes nothing.
use mathlib.Core.Path.{◌≡◌, refl, sym, subst}
use mathlib.Core.Logic.{◌⊎◌, inl, inr, ⊎_elim}
use mathlib.Core.List.{[], ◌∷◌}
use mathlib.Core.Bool.{Bool, true, false, not, cond}
use Prim.Native.Nat.{◌+◌, ◌*◌, ◌^◌, ◌≤◌}
use native.Mathlib.Nat.{le_trans, mul-le-mul}
use native.Mathlib.Omega.{arith}
use lib.Dec.{T, lit≤}
use lib.IntN.{ℤ, pos, nat_abs, ◌+ℤ◌, ◌-ℤ◌, ◌*ℤ◌}
use lib.Ieee.{Float, binary64, add, sub, mul, div, lt, eq, le, is_nan, fits}
use lib.Ieee.Fits.{cond-fits, add-fits, sub-fits, div-fits}
use Rattle.algebra.proofs.Quote.{quote}
use Rattle.algebra.proofs.Lin as Lin
use Rattle.algebra.proofs.Lin.{le_from}
use Rattle.algebra.specs.Order.{◌≦◌, ◌≺◌, Within, within_nat_abs, ≤ℤ-trans, ≤ℤ-or-<ℤ, <ℤ→≤ℤ, mul_nonneg, mul_le, le_of_within, pos_nonneg}
use Rattle.algebra.proofs.Mono.{mul_mono}
use Rattle.number.specs.Exact.{Is, Sized, Held, zeroᶠ, one}
use Rattle.number.specs.Hypot.{Short}
use Rattle.number.specs.Rounding.{Rounds}
use Rattle.number.specs.Signs.{clamp_of}
use Rattle.number.proofs.Operations.{equation→is, zero_is, finite_is, is_held, add_rounds, sub_rounds, mul_rounds}
use Rattle.number.proofs.RoundingLaws.{rounds_order, rounds_order_is, rounded_nonneg, rounded_nonpos}
use Rattle.number.proofs.ExactLaws.{mul_result}
use Rattle.number.proofs.OrderLaws.{is_order, le_self, not_below, below_le, finite_between}
use Rattle.number.proofs.MagnitudeOrder.{clamp_inside, clamp_one_of}
use Rattle.number.proofs.Values.{held_not_nan, add_grown, sub_grown, is_rounds, is_short, products_held, quotient_not_nan}
use Rattle.number.proofs.Basics.{one_of}
use Rattle.boundary.specs.declared.Point.{Point}
use Rattle.boundary.specs.declared.Edge.{Edge}
use Rattle.boundary.specs.Line.{param_of, along_of}
use Rattle.boundary.specs.Boxes.{FieldValue, FieldPoint, FieldEdge, Between, Share, lesser, greater, least_margin}
use Rattle.boundary.proofs.FieldLaws.{field_held, field_is, field_not_nan, way_in_field, field_sub}

-- ---- where on the edge the nearest point is: t is from 0 to 1, and no NaN, over whatever squared length

share : {t : Float} → T (fits binary64 t) → T (le zeroᶠ t) → T (le t one) → Share t
share {t} F l h = record { held = record { fits = F; finite = finite_between zeroᶠ t one tt tt l h }; between = record { low = l; high = h } }

clamped_share : (x : Float) → T (fits binary64 x) → T (not (is_nan x)) → Share (clamp_of x zeroᶠ one)
clamped_share x F n =
    let c = clamp_inside x zeroᶠ one n (unfold le in tt) (unfold is_nan in tt) in
    share (clamp_one_of (λ v. T (fits binary64 v)) F (unfold fits in tt) (unfold fits in tt)) c.0 c.1

pub param_share : {e : Edge} {p : Point} → FieldEdge e → FieldPoint p → Share (param_of e p)
unfolding param_of
param_share {e} {p} E P =
    let x = field_sub E.b.x E.a.x in
    let y = field_sub E.b.y E.a.y in
    quotient _ _ (products_held (field_sub P.x E.a.x) x (field_sub P.y E.a.y) y) (products_held x x y y)
  where
    quotient : (dot l2 : Float) → Held dot → Held l2 → Share (cond (lt zeroᶠ l2) (clamp_of (div binary64 dot l2) zeroᶠ one) zeroᶠ)
    quotient dot l2 D M = at (lt zeroᶠ l2) refl
      where
        at : (b : Bool) → lt zeroᶠ l2 ≡ b → Share (cond b (clamp_of (div binary64 dot l2) zeroᶠ one) zeroᶠ)
        at true h = clamped_share (div binary64 dot l2) (div-fits binary64 dot l2) (quotient_not_nan D M (subst T (sym h) tt))
        at false h = share (unfold fits in tt) (unfold le in tt) (unfold le in tt)

-- ---- the point at t, of one axis

-- In units: L ≤ A, B ≤ H, E is B - A up to e / 2, and F is from 0 to E. Then A + F is at most e / 2 out of L to H
abbrev Part : ℤ → ℤ → Type 0
Part F E = ((pos 0 ≦ F) × (F ≦ E)) ⊎ ((E ≦ F) × (F ≦ pos 0))

part_near : (L H A B E F W e : ℤ) → (L ≦ A) × (A ≦ H) → (L ≦ B) × (B ≦ H) → Within (pos 2 *ℤ (E *ℤ pos 1 -ℤ (B -ℤ A))) (e *ℤ pos 1) → pos 0 ≦ e → e ≦ W → Part F E → (L -ℤ W ≦ A +ℤ F) × (A +ℤ F ≦ H +ℤ W)
part_near L H A B E F W e a b near e0 e_w (inl f) = let ρ = L ∷ H ∷ A ∷ B ∷ E ∷ F ∷ W ∷ e ∷ [] in (
  le_from ρ (Lin.le a.0 ∷ Lin.le f.0 ∷ Lin.le e0 ∷ Lin.le e_w ∷ []) (search quote depth 30) (omega arith),
  le_from ρ (Lin.le b.1 ∷ Lin.le f.1 ∷ Lin.le near.high ∷ Lin.le e0 ∷ Lin.le e_w ∷ []) (search quote depth 30) (omega arith),
)
part_near L H A B E F W e a b near e0 e_w (inr f) = let ρ = L ∷ H ∷ A ∷ B ∷ E ∷ F ∷ W ∷ e ∷ [] in (
  le_from ρ (Lin.le b.0 ∷ Lin.le f.0 ∷ Lin.le near.low ∷ Lin.le e0 ∷ Lin.le e_w ∷ []) (search quote depth 30) (omega arith),
  le_from ρ (Lin.le a.1 ∷ Lin.le f.1 ∷ Lin.le e0 ∷ Lin.le e_w ∷ []) (search quote depth 30) (omega arith),
)

end_near : (L H B W e : ℤ) → (L ≦ B) × (B ≦ H) → pos 0 ≦ e → e ≦ W → (L -ℤ W ≦ B) × (B ≦ H +ℤ W)
end_near L H B W e b e0 e_w = let ρ = L ∷ H ∷ B ∷ W ∷ e ∷ [] in (
  le_from ρ (Lin.le b.0 ∷ Lin.le e0 ∷ Lin.le e_w ∷ []) (search quote depth 30) (omega arith),
  le_from ρ (Lin.le b.1 ∷ Lin.le e0 ∷ Lin.le e_w ∷ []) (search quote depth 30) (omega arith),
)

in_units : {lo x hi : Float} {L X H : ℤ} → Is 1074 lo L → Is 1074 x X → Is 1074 hi H → Between lo x hi → (L ≦ X) × (X ≦ H)
in_units l x h b = (is_order l x b.low, is_order x h b.high)

-- what is at most W out of L to H, rounded, lies in lo to hi widened by w
rounds_between : {lo hi w x : Float} {L H W N : ℤ} → Is 1074 lo L → Is 1074 hi H → Is 1074 w W → Rounds x N (2 ^ 1074) → (L -ℤ W ≦ N) × (N ≦ H +ℤ W) → Between (sub binary64 lo w) x (add binary64 hi w)
rounds_between l h w r b = record { low = rounds_order (sub_rounds l w) r (mul_mono unit unit0 b.0); high = rounds_order r (add_rounds h w) (mul_mono unit unit0 b.1) }
  where
    unit : ℤ
    unit = pos (2 ^ 1074)

    unit0 : pos 0 ≦ unit
    unit0 = pos_nonneg (2 ^ 1074)

-- a share of E units, rounded, is from 0 to E
share_of : {t x : Float} {E : ℤ} → Share t → Is 1074 x E → nat_abs E ≤ 2 ^ 1097 → T (fits binary64 x) → (F : ℤ) × Is 1074 (mul binary64 t x) F × Part F E
share_of {t} {x} {E} s h size F =
    let τ = finite_is s.held in
    let t0 : pos 0 ≦ τ.0 = is_order (zero_is 1074) τ.1 s.between.low in
    let t1 : τ.0 ≦ unit = is_order τ.1 (equation→is one refl) s.between.high in
    let f = mul_result τ.1 h (le_trans (mul-le-mul (le_of_within (record { low = ≤ℤ-trans (record { le = tt }) t0; high = t1 })) size) (lit≤ tt)) in
    let r = mul_rounds τ.1 h in
    let e = is_rounds h F in (
      f.R,
      f.is,
      ⊎_elim
          (λ (up : pos 0 ≦ E). inl (rounded_nonneg unit0 f.rnd (mul_nonneg t0 up), rounds_order_is r e f.is h (shrinks τ.0 E unit (<ℤ→≤ℤ unit0) t1 up)))
          (λ (dn : E ≺ pos 0). inr (rounds_order_is e r h f.is (grows τ.0 E unit (<ℤ→≤ℤ unit0) t1 (<ℤ→≤ℤ dn)), rounded_nonpos unit0 f.rnd (turns τ.0 E t0 (<ℤ→≤ℤ dn))))
          (≤ℤ-or-<ℤ (pos 0) E),
    )
  where
    unit : ℤ
    unit = pos (2 ^ 1074)

    unit0 : pos 0 ≺ unit
    unit0 = record { lt = tt }

    shrinks : (t E u : ℤ) → pos 0 ≦ u → t ≦ u → pos 0 ≦ E → t *ℤ E *ℤ u ≦ E *ℤ (u *ℤ u)
    shrinks t E u u0 h g = le_from (t ∷ E ∷ u ∷ []) (Lin.le (mul_nonneg (mul_le h g) u0) ∷ []) (search quote depth 30) (omega arith)

    grows : (t E u : ℤ) → pos 0 ≦ u → t ≦ u → E ≦ pos 0 → E *ℤ (u *ℤ u) ≦ t *ℤ E *ℤ u
    grows t E u u0 h g = le_from (t ∷ E ∷ u ∷ []) (Lin.le (mul_nonneg (mul_le h g) u0) ∷ []) (search quote depth 30) (omega arith)

    turns : (t E : ℤ) → pos 0 ≦ t → E ≦ pos 0 → t *ℤ E ≦ pos 0
    turns t E h g = le_from (t ∷ E ∷ []) (Lin.le (mul_le h g) ∷ []) (search quote depth 30) (omega arith)

-- for every widening from 2 ^ -31 on, and every lo to hi that has both ends
pub along_inside : {a b t w lo hi : Float} → FieldValue a → FieldValue b → Share t → Held w → T (le least_margin w) → Held lo → Held hi → Between lo a hi → Between lo b hi
    → Between (sub binary64 lo w) (along_of a b t) (add binary64 hi w)
unfolding along_of
along_inside {a} {b} {t} {w} {lo} {hi} fa fb s hw W hlo hhi ba bb =
    let A = field_is fa in
    let B = field_is fb in
    let l = finite_is hlo in
    let h = finite_is hhi in
    let v = finite_is hw in
    let e0 : pos 0 ≦ pos (2 ^ 1043) = record { le = tt } in
    let e_w : pos (2 ^ 1043) ≦ v.0 = is_order (equation→is least_margin refl) v.1 W in
    let a_in = in_units l.1 A.1.is h.1 ba in
    let b_in = in_units l.1 B.1.is h.1 bb in
    let way = way_in_field fa fb in
    let f = share_of s way.is way.size (sub-fits binary64 b a) in
    go (eq t one)
    (rounds_between l.1 h.1 v.1 (is_rounds B.1.is fb.fits) (end_near l.0 h.0 B.0 v.0 (pos (2 ^ 1043)) b_in e0 e_w))
    (rounds_between l.1 h.1 v.1 (add_rounds A.1.is f.1) (part_near l.0 h.0 A.0 B.0 way.E f.0 v.0 (pos (2 ^ 1043)) a_in b_in way.near e0 e_w f.2))
  where
    go : (c : Bool) {x y : Float} → Between (sub binary64 lo w) x (add binary64 hi w) → Between (sub binary64 lo w) y (add binary64 hi w) → Between (sub binary64 lo w) (cond c x y) (add binary64 hi w)
    go true p q = p
    go false p q = q

-- ---- the two ends

pub ends_between : (a b : Float) → T (not (is_nan a)) → T (not (is_nan b)) → Between (lesser a b) a (greater a b) × Between (lesser a b) b (greater a b)
ends_between a b p q = (record { low = low_a (lt b a) refl; high = high_a (lt a b) refl }, record { low = low_b (lt b a) refl; high = high_b (lt a b) refl })
  where
    low_a : (c : Bool) → lt b a ≡ c → T (le (cond c b a) a)
    low_a true e = below_le b a e
    low_a false e = le_self a p

    high_a : (c : Bool) → lt a b ≡ c → T (le a (cond c b a))
    high_a true e = below_le a b e
    high_a false e = le_self a p

    low_b : (c : Bool) → lt b a ≡ c → T (le (cond c b a) b)
    low_b true e = le_self b q
    low_b false e = not_below b a q p e

    high_b : (c : Bool) → lt a b ≡ c → T (le b (cond c b a))
    high_b true e = le_self b q
    high_b false e = not_below a b p q e

-- between the ends, widened
along_widened : {a b t w : Float} → FieldValue a → FieldValue b → Share t → Held w → T (le least_margin w) → Between (sub binary64 (lesser a b) w) (along_of a b t) (add binary64 (greater a b) w)
along_widened {a} {b} fa fb s hw W =
    let ends = ends_between a b (field_not_nan fa) (field_not_nan fb) in
    along_inside fa fb s hw W (one_of Held (lt b a) (field_held fb) (field_held fa)) (one_of Held (lt a b) (field_held fb) (field_held fa)) ends.0 ends.1

-- ---- it is finite, and near enough for its difference from a point of the field to be `Short`

pub along_fits : (a b t : Float) → T (fits binary64 b) → T (fits binary64 (along_of a b t))
unfolding along_of
along_fits a b t F = cond-fits binary64 (eq t one) b (add binary64 a (mul binary64 t (sub binary64 b a))) F (add-fits binary64 a (mul binary64 t (sub binary64 b a)))

pub between_held : {lo q hi : Float} → Held lo → Held hi → T (fits binary64 q) → Between lo q hi → Held q
between_held {lo} {q} {hi} l h F i = record { fits = F; finite = finite_between lo q hi l.finite h.finite i.low i.high }

-- at most 2 ^ 21 and a little
along_sized : {a b t : Float} → FieldValue a → FieldValue b → Share t → (z : ℤ) × Sized 1074 (2 * (2 ^ 1094 + 2 ^ 1043) + 1) (along_of a b t) z
along_sized {a} {b} {t} fa fb s =
    let fine : Held least_margin = record { fits = unfold fits in tt; finite = tt } in
    let moved : Sized 1074 (2 ^ 1043) least_margin (pos (2 ^ 1043)) = record { is = equation→is least_margin refl; near = lit≤ tt } in
    let i = along_widened fa fb s fine (le_self least_margin (held_not_nan fine)) in
    let l = sub_grown (field_is (one_of FieldValue (lt b a) fb fa)).1 moved (lit≤ tt) in
    let h = add_grown (field_is (one_of FieldValue (lt a b) fb fa)).1 moved (lit≤ tt) in
    let q = finite_is (between_held (is_held l.1.is (sub-fits binary64 (lesser a b) least_margin)) (is_held h.1.is (add-fits binary64 (greater a b) least_margin)) (along_fits a b t fb.fits) i) in (
      q.0,
      record {
        is = q.1;
        near = le_of_within (record {
          low = ≤ℤ-trans (within_nat_abs {x = l.0} l.1.near).low (is_order l.1.is q.1 i.low);
          high = ≤ℤ-trans (is_order q.1 h.1.is i.high) (within_nat_abs {x = h.0} h.1.near).high;
        });
      },
    )

pub along_at_most : {a b t : Float} → FieldValue a → FieldValue b → Share t → Short (along_of a b t)
along_at_most {a} {b} {t} fa fb s =
    let q = along_sized fa fb s in
    is_short {z = q.0} (record { is = q.1.is; near = le_trans q.1.near (lit≤ tt) }) (along_fits a b t fb.fits)

pub along_short : {a b t p : Float} → FieldValue a → FieldValue b → FieldValue p → Share t → Short (sub binary64 p (along_of a b t))
along_short {a} {b} {t} {p} fa fb fp s =
    let d = sub_grown (field_is fp).1 (along_sized fa fb s).1 (lit≤ tt) in
    is_short {z = d.0} (record { is = d.1.is; near = le_trans d.1.near (lit≤ tt) }) (sub-fits binary64 p (along_of a b t))
