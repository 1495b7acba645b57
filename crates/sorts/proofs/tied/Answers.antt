-- `sorts::tied` meets its contract. Assumes nothing.
use mathlib.Core.Path.{sym, ◌∙◌}
use Rattle.sorts.specs.Keys.{precedes_by}
use Rattle.sorts.proofs.tied.Goals as goal

pub returns-then-total_less : goal.returns-then-total_less
unfolding precedes_by
returns-then-total_less c = rw (sym c.total_less.ensures ∙ c.if-total_less.true)

pub returns-then-total_less-2 : goal.returns-then-total_less-2
unfolding precedes_by
returns-then-total_less-2 c = rw (sym c.total_less.ensures ∙ c.if-total_less.false, sym c.total_less-2.ensures ∙ c.if-total_less-2.true)

pub returns : goal.returns
unfolding precedes_by
returns c = rw (sym c.total_less.ensures ∙ c.if-total_less.false, sym c.total_less-2.ensures ∙ c.if-total_less-2.false)
