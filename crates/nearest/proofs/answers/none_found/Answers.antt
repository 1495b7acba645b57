-- `nearest::answers::none_found` meets its contract. Assumes nothing.
use lib.Ieee.{of_bits}
use borrow.Author.Rules.{rules}
use Rattle.nearest.proofs.answers.none_found.Goals as goal

pub returns : goal.returns
unfolding of_bits
returns c = search rules
