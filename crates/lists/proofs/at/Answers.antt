-- `lists::at` meets its contract. Assumes nothing.
use mathlib.Core.Path.{sym}
use lib.ListN.{get_or-eq_default}
use Rattle.lists.proofs.at.Goals as goal

pub returns-else-i-s : goal.returns-else-i-s
returns-else-i-s g c = sym (get_or-eq_default c.args.s.now c.args.none c.if-i-s.false)
