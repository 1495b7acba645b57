-- The order by key and then by number is total and transitive, whatever the keys. Assumes nothing.
use mathlib.Core.Path.{◌≡◌, refl, sym, subst, ◌∙◌}
use mathlib.Core.Bool.{Bool, true, false, not, ◌&&◌, ◌||◌, cond, false≢true, true≢false}
use mathlib.Core.Logic.{◌⊎◌, inl, inr}
use Prim.Native.Nat.{ℕ, ◌≤◌, ◌<◌, zero-le}
use native.Mathlib.Omega.{arith}
use lib.Dec.{T, leb}
use lib.Ieee.{Float, nan, inf, fin, lt, eq, le, is_nan}
use lib.Ieee.Bits.{is_true}
use borrow.Author.Tests.{le-leb, leb-true, leb-false}
use Rattle.number.specs.Exact.{zeroᶠ}
use Rattle.number.specs.Signs.{sign_bit}
use Rattle.number.proofs.OrderLaws.{le_not_below, le_through, not_below, below_le, level_le, below_through}
use Rattle.number.proofs.MagnitudeOrder.{above_sign, under_sign}
use Rattle.sorts.specs.Keys.{total_less, precedes_by, precedes, ahead}

-- ---- of floats that are no NaN
abbrev Number : Float → Type 0
Number x = T (not (is_nan x))

-- y does not come before x: it is at least x, and where the two are equal and it has the sign x has it too
record From (x y : Float) : Type 0 where
  least : T (le x y)
  level : eq y x ≡ true → sign_bit y ≡ true → sign_bit x ≡ true

from_not : (x y : Float) → Number x → Number y → total_less y x ≡ false → From x y
unfolding total_less
from_not x y p q e = go (is_nan y) q (lt y x) refl (eq y x) refl (sign_bit y) refl (sign_bit x) refl e
  where
    go : (n : Bool) → T (not n) → (a : Bool) → lt y x ≡ a → (b : Bool) → eq y x ≡ b → (s : Bool) → sign_bit y ≡ s → (t : Bool) → sign_bit x ≡ t
        → (a || ((b && (s && not t)) || (not n && is_nan x))) ≡ false → From x y
    go n m true f b g s h t k z = absurd (true≢false z)
    go n m false f true g true h false k z = absurd (true≢false z)
    go n m false f true g true h true k z = record { least = not_below y x q p f; level = λ _ _. k }
    go n m false f true g false h t k z = record { least = not_below y x q p f; level = λ _ j. absurd (false≢true (sym h ∙ j)) }
    go n m false f false g s h t k z = record { least = not_below y x q p f; level = λ i _. absurd (false≢true (sym g ∙ i)) }

and_false : (n : Bool) → (not n && false) ≡ false
and_false true = refl
and_false false = refl

not_from : (x y : Float) → Number x → From x y → total_less y x ≡ false
unfolding total_less
not_from x y p r = rw (le_not_below y x r.least) (go (is_nan x) p (eq y x) refl (sign_bit y) refl (sign_bit x) refl)
  where
    go : (n : Bool) → T (not n) → (b : Bool) → eq y x ≡ b → (s : Bool) → sign_bit y ≡ s → (t : Bool) → sign_bit x ≡ t → ((b && (s && not t)) || (not (is_nan y) && n)) ≡ false
    go true m b g s h t k = absurd m
    go false m true g true h false k = absurd (false≢true (sym k ∙ r.level g h))
    go false m true g true h true k = and_false (is_nan y)
    go false m true g false h t k = and_false (is_nan y)
    go false m false g s h t k = and_false (is_nan y)

-- what is at most and not below is equal
level_of : (x y : Float) → T (le x y) → lt x y ≡ false → eq x y ≡ true
unfolding le
level_of x y h e = is_true (eq x y) (rw e at h)

from_trans : (x y z : Float) → From x y → From y z → From x z
from_trans x y z r q = record {
  least = le_through x y z r.least q.least;
  level = λ e s.
      let back : T (le z x) = level_le z x e in
      let zy = level_of z y (le_through z x y back r.least) (le_not_below z y q.least) in
      let yx = level_of y x (le_through y z x q.least back) (le_not_below y x r.least) in
      r.level yx (q.level zy s);
}

from_less : (x y : Float) → Number x → total_less x y ≡ true → Number y → From x y
unfolding total_less
from_less x y p e q = go (lt x y) refl (eq x y) refl (sign_bit x) refl (is_nan y) q e
  where
    go : (a : Bool) → lt x y ≡ a → (b : Bool) → eq x y ≡ b → (s : Bool) → sign_bit x ≡ s → (n : Bool) → T (not n)
        → (a || ((b && (s && not (sign_bit y))) || (not (is_nan x) && n))) ≡ true → From x y
    go a f b g s h true m z = absurd m
    go true f b g s h false m z = record { least = below_le x y f; level = λ i _. absurd (true≢false (sym f ∙ le_not_below x y (level_le y x i))) }
    go false f true g true h false m z = record { least = level_le x y g; level = λ _ _. h }
    go false f true g false h false m z = absurd (false≢true (sym (and_false (is_nan x)) ∙ z))
    go false f false g s h false m z = absurd (false≢true (sym (and_false (is_nan x)) ∙ z))

-- ---- of all floats
nan_or : (x : Float) → (x ≡ nan) ⊎ Number x
unfolding is_nan
nan_or nan = inl refl
nan_or (inf s) = inr tt
nan_or (fin s m e) = inr tt

-- NaN comes before nothing, and every number comes before it
nan_last : (x y : Float) → x ≡ nan → total_less x y ≡ false
unfolding total_less
nan_last x y e = rw e

number_first : (x y : Float) → Number x → y ≡ nan → total_less x y ≡ false → ⊥
unfolding total_less is_nan
number_first nan y p e f = p
number_first (inf s) y p e f = true≢false (rw e at f)
number_first (fin s m d) y p e f = true≢false (rw e at f)

less_asym : (x y : Float) → total_less x y ≡ true → total_less y x ≡ false
less_asym x y e = go (nan_or x) (nan_or y)
  where
    go : (x ≡ nan) ⊎ Number x → (y ≡ nan) ⊎ Number y → total_less y x ≡ false
    go p (inl q) = nan_last y x q
    go (inl p) (inr q) = absurd (false≢true (sym (nan_last x y p) ∙ e))
    go (inr p) (inr q) = not_from x y p (from_less x y p e q)

-- what does not come before one that does not come before a third does not come before the third
not_less_trans : (x y z : Float) → total_less y x ≡ false → total_less z y ≡ false → total_less z x ≡ false
not_less_trans x y z e f = go (nan_or x) (nan_or y) (nan_or z)
  where
    go : (x ≡ nan) ⊎ Number x → (y ≡ nan) ⊎ Number y → (z ≡ nan) ⊎ Number z → total_less z x ≡ false
    go p q (inl r) = nan_last z x r
    go p (inl q) (inr r) = absurd (number_first z y r q f)
    go (inl p) (inr q) (inr r) = absurd (number_first y x q p e)
    go (inr p) (inr q) (inr r) = not_from x z p (from_trans x y z (from_not x y p q e) (from_not y z q r f))

-- ---- the order by key and then by number

-- what `precedes_by` says
record Says (x y : Float) (a b : ℕ) : Type 0 where
  first : total_less y x ≡ false
  tie : total_less x y ≡ false → a ≤ b

says : (x y : Float) (a b : ℕ) → precedes_by x y a b ≡ true → Says x y a b
unfolding precedes_by
says x y a b = go (total_less x y) refl (total_less y x) refl
  where
    go : (p : Bool) → total_less x y ≡ p → (q : Bool) → total_less y x ≡ q → cond p true (cond q false (leb a b)) ≡ true → Says x y a b
    go true h q k e = record { first = less_asym x y h; tie = λ z. absurd (true≢false (sym h ∙ z)) }
    go false h true k e = absurd (false≢true e)
    go false h false k e = record { first = k; tie = λ _. leb-true a b e }

holds : (x y : Float) (a b : ℕ) → Says x y a b → precedes_by x y a b ≡ true
unfolding precedes_by
holds x y a b s = rw s.first (go (total_less x y) refl)
  where
    go : (p : Bool) → total_less x y ≡ p → cond p true (leb a b) ≡ true
    go true h = refl
    go false h = le-leb a b (s.tie h)

not_says : (x y : Float) (a b : ℕ) → precedes_by x y a b ≡ false → Says y x b a
unfolding precedes_by
not_says x y a b = go (total_less x y) refl (total_less y x) refl
  where
    go : (p : Bool) → total_less x y ≡ p → (q : Bool) → total_less y x ≡ q → cond p true (cond q false (leb a b)) ≡ false → Says y x b a
    go true h q k e = absurd (true≢false e)
    go false h true k e = record { first = h; tie = λ z. absurd (true≢false (sym k ∙ z)) }
    go false h false k e = record { first = h; tie = λ _. let l : b < a = leb-false a b e in omega arith }

through : (x y z : Float) (a b c : ℕ) → Says x y a b → Says y z b c → Says x z a c
through x y z a b c s t = record {
  first = not_less_trans x y z s.first t.first;
  tie = λ e.
      let l = s.tie (not_less_trans y z x t.first e) in
      let m = t.tie (not_less_trans z x y e s.first) in
      omega arith;
}

module _ (key : ℕ → Float) where
  pub goes_total : (a b : ℕ) → precedes key a b ≡ false → precedes key b a ≡ true
  goes_total a b e = holds (key b) (key a) b a (not_says (key a) (key b) a b e)

  pub goes_trans : (a b c : ℕ) → precedes key a b ≡ true → precedes key b c ≡ true → precedes key a c ≡ true
  goes_trans a b c e f = holds (key a) (key c) a c (through (key a) (key b) (key c) a b c (says (key a) (key b) a b e) (says (key b) (key c) b c f))

  pub goes_antisym : (a b : ℕ) → precedes key a b ≡ true → precedes key b a ≡ true → a ≡ b
  goes_antisym a b e f =
      let s = says (key a) (key b) a b e in
      let t = says (key b) (key a) b a f in
      let l = s.tie t.first in
      let m = t.tie s.first in
      omega arith

  -- what goes before a pivot goes before what does not
  pub ahead_precedes : (v : Float) (t a b : ℕ) → ahead key v t a ≡ true → ahead key v t b ≡ false → precedes key a b ≡ true
  ahead_precedes v t a b e f =
      let s = not_says v (key a) t a (not_true (precedes_by v (key a) t a) e) in
      let r = says v (key b) t b (not_false (precedes_by v (key b) t b) f) in
      holds (key a) (key b) a b (through (key a) v (key b) a t b s r)
    where
      not_true : (c : Bool) → not c ≡ true → c ≡ false
      not_true true e = absurd (false≢true e)
      not_true false e = refl

      not_false : (c : Bool) → not c ≡ false → c ≡ true
      not_false true e = refl
      not_false false e = absurd (true≢false e)

-- ---- what the code's quick tests say
pub goes_less : (x y : Float) (a b : ℕ) → lt x y ≡ true → true ≡ precedes_by x y a b
unfolding precedes_by total_less
goes_less x y a b e = rw e

less_of : (x y : Float) → lt x y ≡ true → total_less x y ≡ true
unfolding total_less
less_of x y e = rw e

pub goes_more : (x y : Float) (a b : ℕ) → lt y x ≡ true → false ≡ precedes_by x y a b
unfolding precedes_by
goes_more x y a b e = rw (less_asym y x (less_of y x e), less_of y x e)

-- ---- a pivot that is the number 0 with a key other than zero: before it goes just what has a lesser key
unequal_number : (v : Float) → (lt v zeroᶠ || lt zeroᶠ v) ≡ true → Number v
unfolding lt is_nan
unequal_number nan h = absurd (false≢true h)
unequal_number (inf s) h = tt
unequal_number (fin s m e) h = tt

-- what is no less than a key other than zero, and has the sign, is no zero: the key has the sign too
unequal_level : (v k : Float) → (lt v zeroᶠ || lt zeroᶠ v) ≡ true → T (le v k) → sign_bit k ≡ true → sign_bit v ≡ true
unequal_level v k h l s = go (lt v zeroᶠ) refl h
  where
    go : (b : Bool) → lt v zeroᶠ ≡ b → (b || lt zeroᶠ v) ≡ true → sign_bit v ≡ true
    go true e z = under_sign v e
    go false e z = absurd (false≢true (sym (above_sign k (is_true (lt zeroᶠ k) (below_through zeroᶠ v k (subst T (sym z) tt) l))) ∙ s))

pub goes_plain : (v k : Float) (x : ℕ) → (lt v zeroᶠ || lt zeroᶠ v) ≡ true → lt k v ≡ false → true ≡ precedes_by v k 0 x
unfolding precedes_by
goes_plain v k x h e = rw (not_less (nan_or k)) (first (total_less v k))
  where
    not_less : (k ≡ nan) ⊎ Number k → total_less k v ≡ false
    not_less (inl q) = nan_last k v q
    not_less (inr q) =
        let p = unequal_number v h in
        let l = not_below k v q p e in
        not_from v k p (record { least = l; level = λ _ s. unequal_level v k h l s })

    first : (b : Bool) → true ≡ cond b true (leb 0 x)
    first true = refl
    first false = sym (le-leb 0 x zero-le)
