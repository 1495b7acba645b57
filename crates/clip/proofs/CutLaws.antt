-- A line is cut only where the way p to the bound lies between 0 and the line's own way d: then p < d exactly where 0 < p. Holds for all floats. Assumes nothing.
use mathlib.Core.Path.{◌≡◌, refl, sym}
use mathlib.Core.Bool.{Bool, true, false, ◌&&◌, true≢false}
use mathlib.Core.List.{[], ◌∷◌}
use Prim.Native.Nat.{ℕ, zero, suc, ◌+◌}
use native.Mathlib.Nat.{zero-lt-suc}
use native.Mathlib.Omega.{arith}
use lib.Dec.{T, lit<}
use lib.IntN.{ℤ, pos, negsuc, neg_ℤ, ◌*ℤ◌}
use lib.Signed.{lt_z}
use lib.Ieee.{Float, nan, inf, fin, binary64, unlike, round, div, lt, eq, ne}
use lib.Ieee.Bits.{is_true}
use Rattle.algebra.proofs.Quote.{quote}
use Rattle.algebra.proofs.Lin as L
use Rattle.algebra.proofs.Lin.{le_from}
use Rattle.algebra.specs.Order.{◌≦◌, <ℤ→≤ℤ}
use Rattle.number.specs.Exact.{Is, zeroᶠ, one}
use Rattle.number.specs.Rounding.{Rounds}
use Rattle.number.proofs.Operations.{zero_is, div_rounds}
use Rattle.number.proofs.Compare.{lt_is, →eq, is_lt, not_lt}
use Rattle.number.proofs.RoundingLaws.{rounds_order}
use Rattle.number.proofs.OrderLaws.{over, places, le_not_below}
use Rattle.clip.specs.Passes.{cut_at}

-- ---- a fraction that is 0 at most, rounded, is not above 0; one that is 1 at least is not below 1
pub zero_rounds : Rounds zeroᶠ (pos 0) 1
unfolding round
zero_rounds = record { sign = false; mag = 0; den_pos = lit< tt; same = refl; val = refl }

one_rounds : Rounds one (pos 1) 1
unfolding round
one_rounds = record { sign = false; mag = 1; den_pos = lit< tt; same = refl; val = refl }

pub before_start_lem : {u : Float} {n : ℤ} {c : ℕ} → Rounds u n c → n ≦ pos 0 → lt zeroᶠ u ≡ false
before_start_lem {u} {n} {c} r l = le_not_below zeroᶠ u (rounds_order r zero_rounds (go n (pos c) l))
  where
    go : (n c : ℤ) → n ≦ pos 0 → n *ℤ pos 1 ≦ pos 0 *ℤ c
    go n c l = le_from (n ∷ c ∷ []) (L.le l ∷ []) (search quote depth 30) (omega arith)

pub past_end_lem : {u : Float} {n : ℤ} {c : ℕ} → Rounds u n c → pos c ≦ n → lt u one ≡ false
past_end_lem {u} {n} {c} r l = le_not_below u one (rounds_order one_rounds r (go n (pos c) l))
  where
    go : (n c : ℤ) → c ≦ n → pos 1 *ℤ c ≦ n *ℤ pos 1
    go n c l = le_from (n ∷ c ∷ []) (L.le l ∷ []) (search quote depth 30) (omega arith)

-- ---- no crossing: the coordinate does not grow, or u is not above 0, or not below 1
and_false : (a b : Bool) → b ≡ false → a && b ≡ false
and_false true b h = h
and_false false b h = refl

still : (d u : Float) → T (eq d zeroᶠ) → cut_at d u ≡ false
unfolding ne
still d u h = rw (is_true (eq d zeroᶠ) h)

no_start : (d u : Float) → lt zeroᶠ u ≡ false → cut_at d u ≡ false
no_start d u h = rw (and_false (ne d zeroᶠ) (lt zeroᶠ u) h)

no_end : (d u : Float) → lt u one ≡ false → cut_at d u ≡ false
no_end d u h = and_false (ne d zeroᶠ && lt zeroᶠ u) (lt u one) h

-- ---- finite ways, as the whole numbers z and w over one power of two
module _ {k : ℕ} (p d : Float) {z : ℤ} (h : Is k p z) where
  -- the bound is not behind the start, and the end no farther
  pub uncut_ahead : (w : ℤ) → Is k d w → pos 0 ≦ z → w ≦ z → cut_at d (div binary64 p d) ≡ false
  uncut_ahead (pos zero) g e f = still d (div binary64 p d) (→eq g (zero_is k) refl)
  uncut_ahead (pos (suc b)) g e f = no_end d _ (past_end_lem (div_rounds false h g (zero-lt-suc b)) (go z (pos (suc b)) f))
    where
      go : (z c : ℤ) → c ≦ z → c ≦ pos 1 *ℤ z
      go z c l = le_from (z ∷ c ∷ []) (L.le l ∷ []) (search quote depth 30) (omega arith)
  uncut_ahead (negsuc b) g e f = no_start d _ (before_start_lem (div_rounds true h g (zero-lt-suc b)) (go z e))
    where
      go : (z : ℤ) → pos 0 ≦ z → negsuc 0 *ℤ z ≦ pos 0
      go z l = le_from (z ∷ []) (L.le l ∷ []) (search quote depth 30) (omega arith)

  -- it is not ahead, and the end not before it
  pub uncut_behind : (w : ℤ) → Is k d w → z ≦ pos 0 → z ≦ w → cut_at d (div binary64 p d) ≡ false
  uncut_behind (pos zero) g e f = still d (div binary64 p d) (→eq g (zero_is k) refl)
  uncut_behind (pos (suc b)) g e f = no_start d _ (before_start_lem (div_rounds false h g (zero-lt-suc b)) (go z e))
    where
      go : (z : ℤ) → z ≦ pos 0 → pos 1 *ℤ z ≦ pos 0
      go z l = le_from (z ∷ []) (L.le l ∷ []) (search quote depth 30) (omega arith)
  uncut_behind (negsuc b) g e f = no_end d _ (past_end_lem (div_rounds true h g (zero-lt-suc b)) (go z (pos (suc b)) f))
    where
      go : (z c : ℤ) → z ≦ neg_ℤ c → c ≦ negsuc 0 *ℤ z
      go z c l = le_from (z ∷ c ∷ []) (L.le l ∷ []) (search quote depth 30) (omega arith)

  uncut_whole : (w : ℤ) → Is k d w → (a b : Bool) → lt_z (pos 0) z ≡ a → lt_z z w ≡ b → unlike a b ≡ true → cut_at d (div binary64 p d) ≡ false
  uncut_whole w g true true e f t = absurd (true≢false (sym t))
  uncut_whole w g true false e f t = uncut_ahead w g (<ℤ→≤ℤ (is_lt e)) (not_lt f)
  uncut_whole w g false true e f t = uncut_behind w g (not_lt e) (<ℤ→≤ℤ (is_lt f))
  uncut_whole w g false false e f t = absurd (true≢false (sym t))

-- over the places of both
uncut_finite : (s t : Bool) (m n : ℕ) (e f : ℤ) → unlike (lt zeroᶠ (fin s m e)) (lt (fin s m e) (fin t n f)) ≡ true → cut_at (fin t n f) (div binary64 (fin s m e) (fin t n f)) ≡ false
uncut_finite s t m n e f h =
    let k = places e + places f in
    let x = over s m e {k = k} (omega arith) in
    let y = over t n f {k = k} (omega arith) in
    uncut_whole (fin s m e) (fin t n f) x.1 y.0 y.1 _ _ (sym (lt_is (zero_is k) x.1)) (sym (lt_is x.1 y.1)) h

-- ---- infinities: the quotient is a zero, an infinity or a NaN
zero_not_above : (s : Bool) → lt zeroᶠ (fin s 0 (pos 0)) ≡ false
unfolding lt
zero_not_above true = refl
zero_not_above false = refl

-- ---- where the two comparisons differ, the line is not cut
pub uncut : (p d : Float) → unlike (lt zeroᶠ p) (lt p d) ≡ true → cut_at d (div binary64 p d) ≡ false
unfolding div lt
uncut nan d h = no_end d nan refl
uncut (inf s) nan h = no_end nan nan refl
uncut (inf s) (inf t) h = no_end (inf t) nan refl
uncut (inf true) (fin true n f) h = no_end (fin true n f) (inf false) refl
uncut (inf true) (fin false n f) h = no_start (fin false n f) (inf true) refl
uncut (inf false) (fin true n f) h = no_start (fin true n f) (inf true) refl
uncut (inf false) (fin false n f) h = no_end (fin false n f) (inf false) refl
uncut (fin s m e) nan h = no_end nan nan refl
uncut (fin s m e) (inf t) h = no_start (inf t) (fin (unlike s t) 0 (pos 0)) (zero_not_above (unlike s t))
uncut (fin s m e) (fin t n f) h = uncut_finite s t m n e f h
