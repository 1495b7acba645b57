-- `set::refusals::rank_of` meets its contract: the two lines of its definition. Assumes nothing.
use Rattle.set.proofs.refusals.rank_of.Goals as goal

pub returns-in-Err : goal.returns-in-Err
returns-in-Err c = rw (c.in-Err.is, c.from.ensures)
