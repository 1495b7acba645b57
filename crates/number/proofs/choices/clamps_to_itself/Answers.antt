-- `number::choices::clamps_to_itself` meets its contract. Assumes nothing.
use borrow.Author.Tests.{not-true, not-false}
use lib.Ieee.{lt, of_bits}
use Rattle.number.specs.Exact.{zeroᶠ}
use Rattle.number.proofs.ChoiceLaws.{below_clamps, between_clamps}
use Rattle.number.proofs.choices.clamps_to_itself.Goals as goal

pub returns : goal.returns
unfolding of_bits
returns c =
    let t = c.args.t in
    (λ e. between_clamps t c.requires (not-true (lt t zeroᶠ) e), λ e. below_clamps t (not-false (lt t zeroᶠ) e))
