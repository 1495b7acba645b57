-- The larger of a number from 1 on and a magnitude, and a number clamped to 0..1, by comparisons alone. Assumes nothing.
use Rattle.std.proofs.Common.{◌≡◌, zero, suc, ◌+◌, ◌*◌, ◌<◌, Bool, true, false, cond, not, ◌&&◌, ◌||◌, T, eqb, ltb, ℤ, sym, refl, ap, ◌∙◌, subst, mul-pos, zero-mul, arith, le-ltb, lt-ltb, ne_eqb, eqb-true}
use mathlib.Core.Bool.{false≢true}
use lib.Ieee.{Float, nan, inf, fin, binary64, up, down, neg, lt, le, eq, is_nan, fits}
use lib.Ieee.Bits.{is_true, is_false}
use lib.Ieee.Fits.{and_l, up_pos, down_pos, neg-fits}
use Rattle.number.specs.Exact.{zeroᶠ, one}
use Rattle.number.specs.Signs.{sign_bit, with_sign, abs_of, stands_before, max_of, clamp_of}
use Rattle.number.proofs.Units.{value_unique}
use Rattle.number.proofs.OrderLaws.{le_through, not_below, below_le, level_le, level_ge, le_level, le_not_below, below_not_le, below_through, right_not_nan}
use Rattle.number.proofs.MagnitudeOrder.{above_sign}
use Rattle.number.proofs.Basics.{one_of}

-- ---- against a magnitude
pub never_true : (b : Bool) → (T b → ⊥) → b ≡ false
never_true true f = absurd (f tt)
never_true false f = refl

max_plain : (s m : Float) → T (not (is_nan s)) → sign_bit m ≡ false → max_of s m ≡ cond (le s m) m s
unfolding max_of stands_before
max_plain s m n e = rw (is_false (is_nan s) n, e) (go (is_nan m) refl (lt m s) refl (eq m s))
  where
    go : (a : Bool) → is_nan m ≡ a → (b : Bool) → lt m s ≡ b → (c : Bool) → cond (a || (b || (c && false))) s m ≡ cond (le s m) m s
    go true f b g c = rw (never_true (le s m) (λ h. subst (λ (a : Bool). T (not a)) f (right_not_nan s m h)))
    go false f true g c = rw (never_true (le s m) (λ h. below_not_le m s (subst T (sym g) tt) h))
    go false f false g true = rw (is_true (le s m) (not_below m s (subst (λ (a : Bool). T (not a)) (sym f) tt) n g))
    go false f false g false = rw (is_true (le s m) (not_below m s (subst (λ (a : Bool). T (not a)) (sym f) tt) n g))

-- ---- the magnitude, where a zero may keep its sign
one_not_zero : (t : Bool) (e : ℤ) → T (le one (fin t 0 e)) → ⊥
unfolding le lt eq
one_not_zero t e h = go t h
  where
    apart : eqb (1 * down e) (0 * up e * 1) ≡ false
    apart = ne_eqb (1 * down e) (0 * up e * 1) (λ z. let p = down_pos e in let q = zero-mul (up e) in omega arith)

    go : (t : Bool) → T (le one (fin t 0 e)) → ⊥
    go true h = rw apart at h
    go false h = rw (le-ltb (1 * down e) (0 * up e * 1) (let q = zero-mul (up e) in omega arith), apart) at h

from_one : (s : Float) → T (le one s) → (t : Bool) (e : ℤ) → le s (fin t 0 e) ≡ false
from_one s h t e = never_true (le s (fin t 0 e)) (λ k. one_not_zero t e (le_through one s (fin t 0 e) h k))

-- m or its opposite, the one that is not below zero
abbrev pub magnitude : Float → Float
magnitude y = cond (lt y zeroᶠ) (neg y) y

magnitude_serves : (s y : Float) → T (le one s) → cond (le s (magnitude y)) (magnitude y) s ≡ cond (le s (abs_of y)) (abs_of y) s
unfolding lt neg abs_of with_sign
magnitude_serves s nan h = refl
magnitude_serves s (inf true) h = refl
magnitude_serves s (inf false) h = refl
magnitude_serves s (fin false m e) h = rw (le-ltb (m * up e * 1) (0 * down e) (let q = zero-mul (down e) in omega arith))
magnitude_serves s (fin true zero e) h =
    let z : ltb 0 (0 * up e * 1 + 0 * down e) ≡ false = le-ltb 0 (0 * up e * 1 + 0 * down e) (let p = zero-mul (up e) in let q = zero-mul (down e) in omega arith) in
    rw (z, from_one s h true e, from_one s h false e)
magnitude_serves s (fin true (suc m) e) h =
    let z : ltb 0 (suc m * up e * 1 + 0 * down e) ≡ true = lt-ltb 0 (suc m * up e * 1 + 0 * down e) (let p : 0 < suc m * up e = mul-pos (omega arith) (up_pos e) in omega arith) in
    rw z

abs_sign : (y : Float) → sign_bit (abs_of y) ≡ false
unfolding abs_of with_sign sign_bit
abs_sign nan = refl
abs_sign (inf s) = refl
abs_sign (fin s m e) = refl

-- ---- the strict comparison serves, since equal numbers from 1 on are the same
-- numbers that the format holds are the same where they are equal and neither has the sign
level_same : (x y : Float) → T (fits binary64 x) → T (fits binary64 y) → sign_bit x ≡ false → sign_bit y ≡ false → eq x y ≡ true → x ≡ y
unfolding eq sign_bit
level_same nan y F G p q e = absurd (false≢true e)
level_same (inf s) nan F G p q e = absurd (false≢true e)
level_same (inf s) (inf t) F G p q e = ap inf (p ∙ sym q)
level_same (inf s) (fin t n g) F G p q e = absurd (false≢true e)
level_same (fin s m d) nan F G p q e = absurd (false≢true e)
level_same (fin s m d) (inf t) F G p q e = absurd (false≢true e)
level_same (fin s m d) (fin t n g) F G p q e =
    let a = m * up d * down g in
    let b = n * up g * down d in
    let h : a ≡ b = eqb-true a b (is_true (eqb a b) (and_l (eqb a b) _ (subst T (sym e) tt))) in
    value_unique binary64 (fin s m d) (fin t n g) false (m * up d) (down d) (down_pos d) F G (p, refl) (q, sym h)

one_sign : (x : Float) → T (le one x) → sign_bit x ≡ false
one_sign x h = above_sign x (is_true (lt zeroᶠ x) (below_through zeroᶠ one x (unfold lt in tt) h))

strict_serves : (s m : Float) → T (fits binary64 s) → T (fits binary64 m) → T (le one s) → cond (lt s m) m s ≡ cond (le s m) m s
unfolding le
strict_serves s m F G h = go (lt s m) refl (eq s m) refl
  where
    go : (a : Bool) → lt s m ≡ a → (b : Bool) → eq s m ≡ b → cond a m s ≡ cond (a || b) m s
    go true f b g = refl
    go false f true g = level_same s m F G (one_sign s h) (one_sign m (le_through one s m h (level_le s m g))) g
    go false f false g = refl

magnitude_fits : (y : Float) → T (fits binary64 y) → T (fits binary64 (magnitude y))
magnitude_fits y F = one_of (λ v. T (fits binary64 v)) (lt y zeroᶠ) (neg-fits binary64 y F) F

-- what the code picks
pub larger_is : (s y : Float) → T (fits binary64 s) → T (fits binary64 y) → T (le one s) → cond (lt s (magnitude y)) (magnitude y) s ≡ max_of s (abs_of y)
larger_is s y F G h = strict_serves s (magnitude y) F (magnitude_fits y G) h ∙ magnitude_serves s y h ∙ sym (max_plain s (abs_of y) (right_not_nan one s h) (abs_sign y))

pub larger_from : (s m : Float) → T (le one s) → T (le one (cond (lt s m) m s))
larger_from s m h = go (lt s m) refl
  where
    go : (b : Bool) → lt s m ≡ b → T (le one (cond b m s))
    go true e = le_through one s m h (below_le s m e)
    go false e = h

-- ---- clamped to 0..1
from_one_clamps : (t : Float) → T (le one t) → eq (clamp_of t zeroᶠ one) one ≡ true
unfolding clamp_of
from_one_clamps t l = rw (le_not_below t zeroᶠ (le_through zeroᶠ one t (unfold le lt eq in tt) l)) (past (lt one t) refl)
  where
    past : (u : Bool) → lt one t ≡ u → eq (cond u one t) one ≡ true
    past true e = unfold eq in refl
    past false e = is_true (eq t one) (le_level t one (not_below one t (unfold is_nan in tt) (right_not_nan one t l) e) l)

short_of_one_clamps : (t : Float) → le one t ≡ false → eq (clamp_of t zeroᶠ one) one ≡ false
unfolding clamp_of
short_of_one_clamps t h = go (lt t zeroᶠ) (lt one t) refl
  where
    not_so : (x : Bool) → (x ≡ true → T (le one t)) → x ≡ false
    not_so true g = absurd (false≢true (sym h ∙ is_true (le one t) (g refl)))
    not_so false g = refl

    go : (u w : Bool) → lt one t ≡ w → eq (cond u zeroᶠ (cond w one t)) one ≡ false
    go true w e = unfold eq in refl
    go false true e = absurd (false≢true (sym (not_so (lt one t) (below_le one t)) ∙ e))
    go false false e = not_so (eq t one) (level_ge t one)

pub one_clamps : (t : Float) → le one t ≡ eq (clamp_of t zeroᶠ one) one
one_clamps t = go (le one t) refl
  where
    go : (b : Bool) → le one t ≡ b → b ≡ eq (clamp_of t zeroᶠ one) one
    go true h = sym (from_one_clamps t (subst T (sym h) tt))
    go false h = sym (short_of_one_clamps t h)

pub below_clamps : (t : Float) → lt t zeroᶠ ≡ true → clamp_of t zeroᶠ one ≡ zeroᶠ
unfolding clamp_of
below_clamps t h = rw h

pub between_clamps : (t : Float) → eq (clamp_of t zeroᶠ one) one ≡ false → lt t zeroᶠ ≡ false → clamp_of t zeroᶠ one ≡ t
unfolding clamp_of
between_clamps t h k = rw k (go (lt one t) refl)
  where
    go : (u : Bool) → lt one t ≡ u → cond u one t ≡ t
    go true e = absurd (false≢true (sym (one_clamps t ∙ h) ∙ is_true (le one t) (below_le one t e)))
    go false e = refl
