-- `number::signs::sign_bit` meets its contract. Assumes nothing.
use Rattle.std.proofs.Common.{◌≡◌, Bool, false, not, T, sym, ◌∙◌, subst}
use lib.Ieee.{Float, is_nan}
use Rattle.number.proofs.SignLaws.{sign_of_bits, sign_of_nan}
use Rattle.number.proofs.signs.sign_bit.Goals as goal

pub returns-then-is_nan : goal.returns-then-is_nan
returns-then-is_nan c = sym (sign_of_nan c.args.x (sym c.is_nan.ensures.value ∙ c.if-is_nan.true))

number : (x : Float) (r : Bool) → r ≡ is_nan x → r ≡ false → T (not (is_nan x))
number x r e f = subst (λ (b : Bool). T (not b)) (sym (sym e ∙ f)) tt

pub returns : goal.returns
returns c = sign_of_bits c.args.x (subst T (sym c.well_formed.0.1) tt) (number _ _ c.is_nan.ensures.value c.if-is_nan.false)
