-- `accept::refusals::last_tested` meets its contract. Assumes nothing.
use mathlib.Core.Path.{sym, ◌∙◌}
use lib.Ieee.{of_bits}
use Rattle.accept.specs.Verdicts.{edges_verdict}
use Rattle.accept.proofs.refusals.last_tested.Goals as goal

pub returns-then-same_point : goal.returns-then-same_point
unfolding edges_verdict
returns-then-same_point c = rw (sym c.same_point.ensures ∙ c.if-same_point.true)

pub returns : goal.returns
unfolding of_bits
returns c =
    rw (sym c.same_point.ensures ∙ c.if-same_point.false, c.area_tested.ensures, c.shoelace_term.ensures)
