-- The order of two `hypot`s, told by the sums of the squares with a slack. Of `hypot` only its relative error is used. Assumes nothing.
use Rattle.std.proofs.Common.{◌≡◌, ℕ, ◌+◌, ◌-◌, ◌*◌, ◌^◌, ◌≤◌, Bool, true, false, cond, not, ◌&&◌, T, [], ◌∷◌, ℤ, pos, ◌+ℤ◌, ◌-ℤ◌, ◌*ℤ◌, neg_ℤ, nat_abs, sym, refl, subst, ⊎_elim, le_trans, le_refl, mul-le-mul, arith, lit≤, pow_pos}
use lib.Ieee.{Float, fin, binary64, add, mul, lt, is_nan}
use lib.Ieee.Bits.{is_true}
use lib.Ieee.Fits.{and_l, and_r, and_i}
use Rattle.algebra.proofs.Quote.{quote}
use Rattle.algebra.specs.Order.{◌≦◌, ◌≺◌, Within, pos_lt, pos_nonneg, ≤ℤ-or-<ℤ, <ℤ→≤ℤ, mul_nonneg}
use Rattle.algebra.proofs.Lin.{false_from, lt_from}
use Rattle.algebra.proofs.Lin as L
use Rattle.algebra.proofs.Comb.{le_comb}
use Rattle.algebra.proofs.Mono.{mul_mono, mul_cancel, sq_mono}
use Rattle.number.specs.Exact.{Is}
use Rattle.number.specs.Hypot.{hypot_of, slack, tiny, clearly_less, clear_limit, Short}
use Rattle.number.proofs.Operations.{equation→is}
use Rattle.number.proofs.RoundingLaws.{rounded_relative_plus}
use Rattle.number.proofs.Values.{short_is}
use Rattle.number.proofs.ExactLaws.{mul_result}
use Rattle.number.proofs.Compare.{lt_is}
use Rattle.number.proofs.OrderLaws.{is_below, not_below, below_le, below_through, through_below}
use Rattle.number.proofs.HypotError.{squares_relative, hypot_relative}

-- ---- the length against the sum of the squares

-- hypotOf x y is d units, the sum of the squares is S units, and the square of d is within 2 ^ -48 of that and 64 units
record Measured (x y : Float) : Type 0 where
  d : ℤ
  d_is : Is 1074 (hypot_of x y) d
  d_plus : pos 0 ≦ d
  S : ℤ
  S-is : Is 1074 (add binary64 (mul binary64 x x) (mul binary64 y y)) S
  S-plus : pos 0 ≦ S
  S-size : nat_abs S ≤ 2 ^ 2093
  near : Within (pos (2 ^ 48) *ℤ (d *ℤ d -ℤ S *ℤ pos (2 ^ 1074))) (S *ℤ pos (2 ^ 1074) +ℤ pos (2 ^ 54) *ℤ pos (2 ^ 1074))

-- two that are close to one N are close to each other
through : (D X N U : ℤ) → pos 0 ≦ U → pos 0 ≦ X → Within (pos (2 ^ 50) *ℤ (D -ℤ N)) (N +ℤ pos (2 ^ 53) *ℤ U) → Within (pos (2 ^ 51) *ℤ (X -ℤ N)) (N +ℤ pos (2 ^ 52) *ℤ U) → Within (pos (2 ^ 48) *ℤ (D -ℤ X)) (X +ℤ pos (2 ^ 54) *ℤ U)
through D X N U U0 X0 h g =
    let ρ = D ∷ X ∷ N ∷ U ∷ [] in
    record {
      low = mul_cancel (pos (2 ^ 53 + 4)) (neg_ℤ (X +ℤ pos (2 ^ 54) *ℤ U)) (pos (2 ^ 48) *ℤ (D -ℤ X)) (record { lt = tt })
          (le_comb ρ (L.le g.high ∷ L.le h.low ∷ L.le X0 ∷ L.le U0 ∷ []) ((2 ^ 50 - 1) ∷ (2 ^ 51 + 1) ∷ (2 ^ 53 + 4 - 2 ^ 51 - 2 ^ 50) ∷ (2 ^ 107 + 2 ^ 56 + 2 ^ 52 - 2 ^ 104 - 2 ^ 102 - 2 ^ 53) ∷ []) 0 (search quote depth 30) tt);
      high = mul_cancel (pos (2 ^ 53 - 4)) (pos (2 ^ 48) *ℤ (D -ℤ X)) (X +ℤ pos (2 ^ 54) *ℤ U) (record { lt = tt })
          (le_comb ρ (L.le h.high ∷ L.le g.low ∷ L.le X0 ∷ L.le U0 ∷ []) ((2 ^ 51 - 1) ∷ (2 ^ 50 + 1) ∷ (2 ^ 53 - 2 ^ 51 - 2 ^ 50 - 4) ∷ (2 ^ 107 + 2 ^ 53 - 2 ^ 104 - 2 ^ 102 - 2 ^ 56 - 2 ^ 52) ∷ []) 0 (search quote depth 30) tt);
    }

measured : {x y : Float} → Short x → Short y → Measured x y
measured {x} {y} h g =
    let u = short_is h in
    let w = short_is g in
    let us = le_trans u.1.near (lit≤ tt) in
    let ws = le_trans w.1.near (lit≤ tt) in
    let H = hypot_relative u.1.is w.1.is us ws in
    let Q = squares_relative u.1.is w.1.is us ws in
    let N = u.0 *ℤ u.0 +ℤ w.0 *ℤ w.0 in
    record {
      d = H.d;
      d_is = H.is;
      d_plus = H.plus;
      S = Q.S;
      S-is = Q.is;
      S-plus = Q.plus;
      S-size = Q.size;
      near = through (H.d *ℤ H.d) (Q.S *ℤ pos (2 ^ 1074)) N (pos (2 ^ 1074)) (pos_nonneg (2 ^ 1074)) (mul_nonneg Q.plus (pos_nonneg (2 ^ 1074))) H.near Q.near;
    }

-- ---- the law

-- S and Y are the sums in units, P is the slack times S, rounded, and D and E are the squares of the lengths, in squares of the unit.
-- A unit is 2 ^ 40 v of those, so that the slack is (2 ^ 40 + 1) v units. k and p bring the errors of D, E and P together.
module _ (v S Y P D E : ℤ) (v0 : pos 0 ≺ v) where
  abbrev unit : ℤ
  unit = pos (2 ^ 40) *ℤ v

  abbrev slacked : ℤ
  slacked = pos (2 ^ 40 + 1) *ℤ v *ℤ S

  abbrev k : ℕ
  k = (2 ^ 53 - 1) * (2 ^ 40 + 1)

  abbrev p : ℕ
  p = (2 ^ 48 + 1) * 2 ^ 40

  abbrev rest : ℕ
  rest = k * (2 ^ 48 - 1) * 2 ^ 40 - 2 ^ 93 * p

  clear_below : pos (2 ^ 48) *ℤ (D -ℤ S *ℤ unit) ≦ S *ℤ unit +ℤ pos (2 ^ 54) *ℤ unit
      → neg_ℤ (Y *ℤ unit +ℤ pos (2 ^ 54) *ℤ unit) ≦ pos (2 ^ 48) *ℤ (E -ℤ Y *ℤ unit)
      → neg_ℤ (slacked +ℤ pos (2 ^ 52) *ℤ unit) ≦ pos (2 ^ 53) *ℤ (P *ℤ unit -ℤ slacked)
      → P ≦ Y → pos (2 ^ 174) ≦ Y → D ≺ E
  clear_below hD hE hP PY Y0 =
      let ρ = v ∷ S ∷ Y ∷ P ∷ D ∷ E ∷ [] in
      let V0 = <ℤ→≤ℤ v0 in
      let apart : D +ℤ v ≦ E = mul_cancel (pos (2 ^ 48 * k)) (D +ℤ v) E (record { lt = tt })
      (le_comb ρ (L.le hD ∷ L.le hE ∷ L.le hP ∷ L.le (mul_mono v V0 PY) ∷ L.le (mul_mono v V0 Y0) ∷ L.le V0 ∷ [])
      (k ∷ k ∷ p ∷ (2 ^ 93 * p) ∷ rest ∷ (rest * 2 ^ 174 - (k * 2 ^ 95 + p * 2 ^ 92 + k * 2 ^ 48)) ∷ []) 0 (search quote depth 30) tt) in
      lt_from ρ (L.le apart ∷ L.lt v0 ∷ []) (search quote depth 30) (omega arith)

pub hypot_clear : {a b c d : Float} → Short a → Short b → Short c → Short d
    → T (clearly_less (add binary64 (mul binary64 a a) (mul binary64 b b)) (add binary64 (mul binary64 c c) (mul binary64 d d))) → T (lt (hypot_of a b) (hypot_of c d))
unfolding clearly_less
hypot_clear {a} {b} {c} {d} ha hb hc hd t =
    let s = add binary64 (mul binary64 a a) (mul binary64 b b) in
    let y = add binary64 (mul binary64 c c) (mul binary64 d d) in
    let X = measured ha hb in
    let Y = measured hc hd in
    let P = mul_result slack_is X.S-is (le_trans (mul-le-mul (le_refl ((2 ^ 40 + 1) * 2 ^ 1034)) X.S-size) (lit≤ tt)) in
    let less = is_below P.is Y.S-is (and_r (lt tiny y) (lt (mul binary64 slack s) y) t) in
    let large = is_below tiny_is Y.S-is (and_l (lt tiny y) (lt (mul binary64 slack s) y) t) in
    let slacked = rounded_relative_plus (pos_lt (pow_pos 1074)) P.rnd (mul_nonneg {a = pos ((2 ^ 40 + 1) * 2 ^ 1034)} (record { le = tt }) X.S-plus) in
    subst T (sym (lt_is X.d_is Y.d_is)) (root_below X.d Y.d Y.d_plus (clear_below (pos (2 ^ 1034)) X.S Y.S P.R (X.d *ℤ X.d) (Y.d *ℤ Y.d) (record { lt = tt }) X.near.high Y.near.low slacked.low (<ℤ→≤ℤ less) (<ℤ→≤ℤ large))).lt
  where
    slack_is : Is 1074 slack (pos ((2 ^ 40 + 1) * 2 ^ 1034))
    slack_is = equation→is slack refl

    tiny_is : Is 1074 tiny (pos (2 ^ 174))
    tiny_is = equation→is tiny refl

    root_below : (m n : ℤ) → pos 0 ≦ n → m *ℤ m ≺ n *ℤ n → m ≺ n
    root_below m n N h = ⊎_elim (λ (l : n ≦ m). absurd (false_from (m ∷ n ∷ []) (L.le (sq_mono N l) ∷ L.lt h ∷ []) (search quote depth 30) (omega arith))) (λ l. l) (≤ℤ-or-<ℤ n m)

-- ---- worked examples: 5 is clearly less than the root of 26, and not than itself
example_less : clearly_less (fin false 25 (pos 0)) (fin false 13 (pos 1)) ≡ true
unfolding clearly_less
example_less = refl

example_equal : clearly_less (fin false 25 (pos 0)) (fin false 25 (pos 0)) ≡ false
unfolding clearly_less
example_equal = refl

-- what is above the limit is clearly above s
pub above_limit : (s t : Float) → T (not (is_nan (mul binary64 slack s))) → T (lt (clear_limit s) t) → T (clearly_less s t)
unfolding clearly_less
above_limit s t n h = go (mul binary64 slack s) n (lt tiny (mul binary64 slack s)) refl h
  where
    go : (u : Float) → T (not (is_nan u)) → (b : Bool) → lt tiny u ≡ b → T (lt (cond b u tiny) t) → T (lt tiny t && lt u t)
    go u n true e h = and_i (lt tiny t) (lt u t) (below_through tiny u t (subst T (sym e) tt) (below_le u t (is_true (lt u t) h))) h
    go u n false e h = and_i (lt tiny t) (lt u t) h (through_below u tiny t (not_below tiny u (unfold is_nan in tt) n e) h)
