-- `any::holds_at` meets its contract. Assumes nothing.
use Rattle.any.proofs.holds_at.Goals as goal

pub returns : goal.returns
returns c = rw (c.holds.ensures, c.outline_at.ensures)
