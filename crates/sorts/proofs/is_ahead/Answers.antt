-- `sorts::is_ahead` meets its contract. Assumes nothing.
use mathlib.Core.Path.{◌≡◌, refl, sym, subst, ap}
use mathlib.Core.Bool.{Bool, true, false, ◌||◌, not, true≢false}
use Rattle.sorts.specs.Keys.{precedes_by}
use Rattle.sorts.proofs.Order.{goes_less, goes_more, goes_plain}
use lib.Dec.{T, eqb}
use lib.Ieee.{of_bits, lt}
use lib.Ieee.Bits.{is_true}
use lib.Ieee.Fits.{and_l, and_r}
use borrow.Author.Tests.{eqb-true}
use Rattle.number.specs.Exact.{zeroᶠ}
use Rattle.sorts.proofs.is_ahead.Goals as goal

-- what a test answers, where both of its answers are known
decided : (a p : Bool) → (a ≡ true → false ≡ p) → (a ≡ false → true ≡ p) → a ≡ not p
decided true p f g = ap not (f refl)
decided false p f g = ap not (g refl)

-- where one of two tests passes, and the first does not, the second does
other-of : (a b : Bool) → (a || b) ≡ true → a ≡ false → b ≡ true
other-of true b e f = absurd (true≢false f)
other-of false b e f = e

pub returns-then-pivot-v : goal.returns-then-pivot-v
unfolding of_bits
returns-then-pivot-v c =
    let a = c.args in
    let v = a.pivot.key in
    let h = subst T (sym c.if-pivot-v.true) tt in
    let first : a.pivot.number ≡ 0 = eqb-true a.pivot.number 0 (is_true (eqb a.pivot.number 0) (and_l (eqb a.pivot.number 0) (lt v zeroᶠ || lt zeroᶠ v) h)) in
    let unequal = is_true (lt v zeroᶠ || lt zeroᶠ v) (and_r (eqb a.pivot.number 0) (lt v zeroᶠ || lt zeroᶠ v) h) in
    rw first (decided (lt a.k v) (precedes_by v a.k 0 a.x) (goes_more v a.k 0 a.x) (goes_plain v a.k a.x unequal))

pub returns-then-k-v : goal.returns-then-k-v
returns-then-k-v c =
    let a = c.args in
    let v = a.pivot.key in
    decided (lt a.k v) _ (goes_more v a.k a.pivot.number a.x) (λ h. goes_less v a.k a.pivot.number a.x (other-of _ _ c.if-k-v.true h))
