-- `search::wait_both` meets its contract. Assumes nothing.
use borrow.Author.Rules.{rules}
use Rattle.search.proofs.wait_both.Goals as goal

pub push-requires : goal.push-requires
push-requires c = let s = c.requires in (search rules, (search rules, rw c.entry_for.ensures s.2.0))

pub push-requires-2 : goal.push-requires-2
push-requires-2 c = let s = c.requires in (search rules, (search rules, rw c.entry_for-2.ensures s.2.1))

pub returns-clause-opened : goal.returns-clause-opened
returns-clause-opened c = record { between = _; first = rw c.entry_for.ensures at c.push.ensures.pushed; second = rw (c.entry_for-2.ensures, c.push.ensures.len) at c.push-2.ensures.pushed }
