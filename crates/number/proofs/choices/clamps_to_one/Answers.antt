-- `number::choices::clamps_to_one` meets its contract. Assumes nothing.
use lib.Ieee.{of_bits}
use Rattle.number.proofs.ChoiceLaws.{one_clamps}
use Rattle.number.proofs.choices.clamps_to_one.Goals as goal

pub returns : goal.returns
unfolding of_bits
returns c = one_clamps c.args.t
