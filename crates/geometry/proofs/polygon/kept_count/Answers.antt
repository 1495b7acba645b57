-- `geometry::polygon::kept_count` meets its contract. Assumes nothing.
use mathlib.Core.Path.{◌≡◌, refl, sym, ◌∙◌}
use mathlib.Core.Bool.{Bool, true, false, ◌&&◌}
use mathlib.Core.List.{List}
use Prim.Native.Nat.{◌≤◌}
use native.Mathlib.Omega.{arith}
use borrow.Author.Tests.{ltb-true}
use borrow.Author.Rules.{rules}
use lib.Dec.{ltb}
use lib.ListN.{length}
use lib.Ieee.{Float}
use Rattle.boundary.specs.Outline.{count}
use Rattle.geometry.specs.Making.{closed, kept_count}
use Rattle.geometry.proofs.polygon.kept_count.Goals as goal

first_of : (x y : Bool) → (x && y) ≡ true → x ≡ true
first_of true y e = refl
first_of false y e = e

-- a closing vertex is not the only one
two_numbers : (v : List Float) → closed v ≡ true → 2 ≤ length v
unfolding closed
two_numbers v e = let l = ltb-true 1 (count v) (first_of (ltb 1 (count v)) _ e) in omega arith

pub overflow_sub-result : goal.overflow_sub-result
overflow_sub-result c = let l = two_numbers _ (sym c.is_closed.ensures ∙ c.if-is_closed.true) in omega arith

pub returns-then-is_closed : goal.returns-then-is_closed
unfolding kept_count
returns-then-is_closed c = (rw (sym c.is_closed.ensures ∙ c.if-is_closed.true), search rules)

pub returns : goal.returns
unfolding kept_count
returns c = (rw (sym c.is_closed.ensures ∙ c.if-is_closed.false), search rules)
