-- `meeting::push` meets its contract. Assumes nothing.
use Rattle.meeting.proofs.WalkLaws.{puts}
use mathlib.Core.List.{◌∷◌, []}
use borrow.Author.Rules.{rules}
use Rattle.meeting.proofs.push.Goals as goal

pub returns-then-k-list : goal.returns-then-k-list
returns-then-k-list c = puts _ _ (_ ∷ []) _ _ c.put.ensures (search rules)

pub returns-else-k-list : goal.returns-else-k-list
returns-else-k-list c = puts _ _ (_ ∷ []) _ _ c.put.ensures (search rules)
