-- `accept::refusals::sign_tested` meets its contract. Assumes nothing.
use mathlib.Core.Path.{sym, ◌∙◌}
use lib.Ieee.{of_bits}
use Rattle.std.proofs.lemmas.Result.{err_from_is_err_and}
use Rattle.accept.proofs.VerdictLaws.{sign_negative, sign_kept, sign_turned}
use Rattle.accept.proofs.refusals.sign_tested.Goals as goal

pub returns-then-area : goal.returns-then-area
unfolding of_bits
returns-then-area c = λ v s e. sign_negative v s _ (sym e ∙ c.in_ok-area.was) c.if-area.true

pub returns : goal.returns
unfolding of_bits
returns c = λ v s e. sign_kept v s _ (sym e ∙ c.in_ok-area.was) c.if-area.false

pub returns-in_err-area : goal.returns-in_err-area
returns-in_err-area c = λ v s e.
    let p = err_from_is_err_and c.from_residual.result c.from_residual.ensures.1 in rw (p.1, p.2) (sign_turned v s _ (sym e ∙ c.in_err-area.was))
