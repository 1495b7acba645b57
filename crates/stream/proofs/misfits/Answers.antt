-- `stream::misfits` meets its contract: its text is the definition's. Assumes nothing.
use Rattle.stream.specs.Records.{misfit}
use mathlib.Core.Path.{refl}
use Rattle.stream.proofs.misfits.Goals as goal

pub returns : goal.returns
unfolding misfit
returns c = refl
