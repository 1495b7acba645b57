-- `fill::cell::counted` meets its contract. Assumes nothing.
use Rattle.clip.proofs.StageLaws.{counted_long, counted_short}
use Rattle.fill.proofs.cell.counted.Goals as goal

pub returns-then-half-beyond : goal.returns-then-half-beyond
returns-then-half-beyond c = λ w es m e h. counted_long c.requires.1 e h c.if-half-beyond.true _

pub returns : goal.returns
returns c = λ w es m e h. counted_short c.requires.1 e h c.if-half-beyond.false
