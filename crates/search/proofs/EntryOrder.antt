-- Entries whose gaps are numbers are in a total order. Assumes nothing.
use mathlib.Core.Path.{◌≡◌, refl, sym, subst}
use mathlib.Core.Logic.{⊎_elim}
use mathlib.Core.Bool.{Bool, true, false, not, ◌&&◌}
use Prim.Native.Nat.{◌≤◌, ◌<◌}
use native.Mathlib.Omega.{arith}
use borrow.Author.Tests.{ltb-false}
use lib.Dec.{T, ltb, ltb→lt, T_not, not_T}
use lib.Ieee.{le, lt, eq}
use lib.Ieee.Bits.{is_true}
use lib.Ieee.Fits.{and_l, and_r, and_i}
use Rattle.number.proofs.Basics.{or_l, or_r, or_split}
use Rattle.number.proofs.OrderLaws.{not_below, below_le, level_le, le_level, below_not_le, le_through}
use Rattle.search.specs.declared.Entry.{Entry}
use Rattle.search.specs.Order.{entry_before, NumberGap, ◌≼◌}

-- ---- what `entry_before` says of the gaps and the node numbers
module _ (a b : Entry) where
  before_gap : T (entry_before a b) → T (le a.gap b.gap)
  unfolding entry_before
  before_gap h =
      ⊎_elim (λ l. below_le a.gap b.gap (is_true (lt a.gap b.gap) l))
      (λ t. level_le a.gap b.gap (is_true (eq a.gap b.gap) (and_l (eq a.gap b.gap) (ltb a.node b.node) t)))
      (or_split (lt a.gap b.gap) (eq a.gap b.gap && ltb a.node b.node) h)

  before_node : T (entry_before a b) → T (le b.gap a.gap) → a.node < b.node
  unfolding entry_before
  before_node h k =
      ⊎_elim (λ l. absurd (below_not_le a.gap b.gap l k))
      (λ t. ltb→lt a.node b.node (and_r (eq a.gap b.gap) (ltb a.node b.node) t))
      (or_split (lt a.gap b.gap) (eq a.gap b.gap && ltb a.node b.node) h)

-- ---- and what `≼` says
module _ {a b : Entry} (h : a ≼ b) where
  pub upto_gap : T (le a.gap b.gap)
  unfolding entry_before
  upto_gap = go (lt b.gap a.gap) refl
    where
      go : (t : Bool) → lt b.gap a.gap ≡ t → T (le a.gap b.gap)
      go true e = absurd (T_not (entry_before b a) h.order (or_l (lt b.gap a.gap) (eq b.gap a.gap && ltb b.node a.node) (subst T (sym e) tt)))
      go false e = not_below b.gap a.gap h.right h.left e

  upto_node : T (le b.gap a.gap) → a.node ≤ b.node
  unfolding entry_before
  upto_node k = go (ltb b.node a.node) refl
    where
      go : (t : Bool) → ltb b.node a.node ≡ t → a.node ≤ b.node
      go true e = absurd (T_not (entry_before b a) h.order (or_r (lt b.gap a.gap) (eq b.gap a.gap && ltb b.node a.node) (and_i (eq b.gap a.gap) (ltb b.node a.node) (le_level b.gap a.gap k upto_gap) (subst T (sym e) tt))))
      go false e = ltb-false b.node a.node e

-- ---- the order is total
pub upto_of_before : (a b : Entry) → NumberGap a → NumberGap b → T (entry_before a b) → a ≼ b
upto_of_before a b l r h = record { left = l; right = r; order = not_T (entry_before b a) (λ k. omega (arith, before_node a b h (before_gap b a k), before_node b a k (before_gap a b h))) }

pub upto_of_not : (a b : Entry) → NumberGap a → NumberGap b → entry_before b a ≡ false → a ≼ b
upto_of_not a b l r e = record { left = l; right = r; order = subst (λ (t : Bool). T (not t)) (sym e) tt }

pub upto_self : (a : Entry) → NumberGap a → a ≼ a
upto_self a n = go (entry_before a a) refl
  where
    go : (t : Bool) → entry_before a a ≡ t → a ≼ a
    go true e = upto_of_before a a n n (subst T (sym e) tt)
    go false e = upto_of_not a a n n e

pub upto_through : {a b c : Entry} → a ≼ b → b ≼ c → a ≼ c
upto_through {a} {b} {c} h k = record { left = h.left; right = k.right; order = not_T (entry_before c a) clash }
  where
    clash : T (entry_before c a) → ⊥
    clash t =
        let ca = before_gap c a t in
        let ab = upto_gap h in
        let bc = upto_gap k in
        let ba = le_through b.gap c.gap a.gap bc ca in
        let cb = le_through c.gap a.gap b.gap ca ab in
        let ac = le_through a.gap b.gap c.gap ab bc in
        omega (arith, upto_node h ba, upto_node k cb, before_node c a t ac)
