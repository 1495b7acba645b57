-- `tree::split` meets its contract. Assumes nothing.
use Rattle.tree.proofs.AxisLaws.{wider_along}
use mathlib.Core.Bool.{true, false}
use Rattle.tree.proofs.split.Goals as goal

pub returns-then-b : goal.returns-then-b
returns-then-b c = rw (c.halve.ensures, wider_along _ _ _ true c.requires.2 c.if-b.true)

pub returns-else-b : goal.returns-else-b
returns-else-b c = rw (c.halve-else-b.ensures, wider_along _ _ _ false c.requires.2 c.if-b.false)
