-- `stream::other_unit` meets its contract: eight bytes, compared with eight. Assumes nothing.
use mathlib.Core.Path.{◌≡◌, refl, ap, ◌∙◌}
use mathlib.Core.Bool.{not, ◌&&◌}
use mathlib.Core.List.{List, [], ◌∷◌}
use Prim.Native.Nat.{ℕ, ◌+◌, ◌-◌}
use native.Mathlib.Omega.{arith}
use lib.Dec.{eqb}
use lib.ListN.{take, drop}
use lib.Pointwise.{pointwise}
use Rattle.stream.specs.Records.{right_unit, same_bytes, other_unit}
use Rattle.stream.proofs.other_unit.Goals as goal

same_is : (x y : List ℕ) → pointwise eqb x y ≡ same_bytes x y
unfolding same_bytes
same_is [] [] = refl
same_is [] (b ∷ y) = refl
same_is (a ∷ x) [] = refl
same_is (a ∷ x) (b ∷ y) = ap (λ t. eqb a b && t) (same_is x y)

pub returns : goal.returns
unfolding other_unit
returns c =
    let e : c.args.at + 8 - c.args.at ≡ 8 = omega arith in
    c.ne.ensures ∙ ap not (rw e (same_is (take 8 (drop c.args.at c.args.s.now)) right_unit))
