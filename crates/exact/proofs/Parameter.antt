-- The parameter of an edge's nearest point: dot / l2, rounded and clamped to 0..1, is within 2 ^ -52 of the exact one. Assumes nothing.
use mathlib.Core.Path.{◌≡◌, refl}
use mathlib.Core.List.{[], ◌∷◌}
use mathlib.Core.Bool.{Bool, true, false, cond}
use Prim.Native.Nat.{◌^◌, ◌-◌}
use native.Mathlib.Omega.{arith}
use lib.IntN.{ℤ, pos, ◌-ℤ◌, ◌*ℤ◌}
use lib.Signed.{lt_z, clash_ℤ}
use lib.Ieee.{Float}
use Rattle.algebra.proofs.Quote.{quote}
use Rattle.algebra.specs.Order.{◌≦◌, ◌≺◌, Within, ≤ℤ-trans, ≤ℤ-of-eq, <ℤ→≤ℤ, mul_pos, nonneg_nat}
use Rattle.algebra.proofs.Lin.{le, lt, le_from}
use Rattle.algebra.proofs.Mono.{mul_mono}
use Rattle.number.specs.Exact.{Is, zeroᶠ, one}
use Rattle.number.specs.Rounding.{Result}
use Rattle.number.specs.Signs.{clamp_of}
use Rattle.number.proofs.Operations.{equation→is, zero_is}
use Rattle.number.proofs.MagnitudeOrder.{clamp_is}
use Rattle.number.proofs.RoundingLaws.{rounded_within, rounded_relative, rounded_nonneg, rounded_nonpos}
use Rattle.number.proofs.Compare.{is_lt, not_lt}
use Rattle.grid.proofs.Regions.{InRegion, reach}
use Rattle.grid.specs.Distance.Region.{before_start, beside, past_end}
use Rattle.grid.specs.Distance.{Region}
use Rattle.exact.proofs.Chain as C

-- 1, and 2 ^ -52, in units of 2 ^ -1074
abbrev pub U : ℤ
U = pos (2 ^ 1074)

abbrev pub E : ℤ
E = pos (2 ^ 1022)

pub U0 : pos 0 ≺ U
U0 = record { lt = tt }

pub E0 : pos 0 ≺ E
E0 = record { lt = tt }

pub one_is : Is 1074 one U
one_is = equation→is one refl

-- t is from 0 to 1, and within 2 ^ -52 of D / l2
pub record Param (t : Float) (l2 D : ℤ) : Type 0 where
  pub x : ℤ
  pub is : Is 1074 t x
  pub low : pos 0 ≦ x
  pub high : x ≦ U
  pub near : Within (x *ℤ l2 -ℤ D *ℤ U) (l2 *ℤ E)

-- ---- clamping
abbrev clamp_z : ℤ → ℤ
clamp_z x = cond (lt_z x (pos 0)) (pos 0) (cond (lt_z U x) U x)

clamp_elim : (P : ℤ → Type 0) (x : ℤ) → (x ≺ pos 0 → P (pos 0)) → (U ≺ x → P U) → (pos 0 ≦ x → x ≦ U → P x) → P (clamp_z x)
clamp_elim P x f g h = go (lt_z x (pos 0)) refl (lt_z U x) refl
  where
    go : (b : Bool) → lt_z x (pos 0) ≡ b → (c : Bool) → lt_z U x ≡ c → P (cond b (pos 0) (cond c U x))
    go true e c d = f (is_lt e)
    go false e true d = g (is_lt d)
    go false e false d = h (not_lt e) (not_lt d)

module _ {t : Float} (dot l2 : ℤ) (L0 : pos 0 ≺ l2) (r : Result t (dot *ℤ U) l2) where
  abbrev Near : ℤ → ℤ → Type 0
  Near D x = Within (x *ℤ l2 -ℤ D *ℤ U) (l2 *ℤ E)

  scale : {a b : ℤ} → a ≦ b → a *ℤ U ≦ b *ℤ U
  scale h = mul_mono U (<ℤ→≤ℤ U0) h

  at_zero : (u e : ℤ) → pos 0 ≺ e → (x : ℤ) → x ≦ pos 0 → pos 0 ≦ x → Within (x *ℤ l2 -ℤ pos 0 *ℤ u) (l2 *ℤ e)
  at_zero u e e0 x h k = record {
    low = le_from (x ∷ l2 ∷ u ∷ e ∷ []) (le (mul_mono l2 (<ℤ→≤ℤ L0) k) ∷ lt (mul_pos L0 e0) ∷ []) (search quote depth 30) (omega arith);
    high = le_from (x ∷ l2 ∷ u ∷ e ∷ []) (le (mul_mono l2 (<ℤ→≤ℤ L0) h) ∷ lt (mul_pos L0 e0) ∷ []) (search quote depth 30) (omega arith);
  }

  near_before : dot ≦ pos 0 → Near (pos 0) (clamp_z r.R)
  near_before h =
      let z : r.R ≦ pos 0 = rounded_nonpos L0 r.rnd (scale h) in
      clamp_elim (Near (pos 0)) r.R
      (λ k. at_zero U E E0 (pos 0) (record { le = tt }) (record { le = tt }))
      (λ k. clash_ℤ k (≤ℤ-trans z (<ℤ→≤ℤ U0)))
      (λ k l. at_zero U E E0 r.R z k)

  near_past : pos 0 ≺ dot → l2 ≦ dot → Near l2 (clamp_z r.R)
  near_past p h =
      let w = rounded_relative L0 r.rnd (≤ℤ-of-eq (nonneg_nat (scale (<ℤ→≤ℤ p)))) in
      let f : pos (2 ^ 1074 - 2 ^ 1022) ≦ r.R = C.far dot E0 L0 r.R h (record { le = tt }) w in
      clamp_elim (Near l2) r.R
      (λ k. clash_ℤ k (≤ℤ-trans (record { le = tt }) f))
      (λ k. C.far_near dot E0 L0 U (record { le = tt }) (record { le = tt }))
      (λ k l. C.far_near dot E0 L0 r.R f l)

  near_beside : pos 0 ≺ dot → dot ≺ l2 → Near dot (clamp_z r.R)
  near_beside p h =
      let w : Within (pos 2 *ℤ (r.R *ℤ l2 -ℤ dot *ℤ U)) (E *ℤ l2) = rounded_within 1022 L0 r.rnd (C.quotient_in dot E0 L0 (<ℤ→≤ℤ p) (<ℤ→≤ℤ h)) (C.quotient_below dot E0 L0) in
      clamp_elim (Near dot) r.R
      (λ k. clash_ℤ k (rounded_nonneg L0 r.rnd (scale (<ℤ→≤ℤ p))))
      (λ k. C.mid_clamped dot E0 L0 r.R w (<ℤ→≤ℤ h) (<ℤ→≤ℤ k))
      (λ k l. C.mid_near dot E0 L0 r.R w)

  pub clamped : (s : Region) → InRegion dot l2 s → Param (clamp_of t zeroᶠ one) l2 (reach s dot l2)
  clamped s h = record {
    x = clamp_z r.R;
    is = clamp_is r.is (zero_is 1074) one_is;
    low = clamp_elim (λ x. pos 0 ≦ x) r.R (λ h. record { le = tt }) (λ h. record { le = tt }) (λ h k. h);
    high = clamp_elim (λ x. x ≦ U) r.R (λ h. record { le = tt }) (λ h. record { le = tt }) (λ h k. k);
    near = go s h;
  }
    where
      go : (s : Region) → InRegion dot l2 s → Near (reach s dot l2) (clamp_z r.R)
      go before_start h = near_before h
      go beside h = near_beside h.0 h.1
      go past_end h = near_past h.0 h.1
