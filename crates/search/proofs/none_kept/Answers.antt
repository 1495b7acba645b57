-- `search::none_kept` meets its contract. Assumes nothing.
use mathlib.Core.Path.{refl}
use lib.Ieee.{of_bits}
use Rattle.search.proofs.none_kept.Goals as goal

pub returns : goal.returns
unfolding of_bits
returns c = refl
