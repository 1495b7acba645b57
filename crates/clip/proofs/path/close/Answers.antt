-- `clip::path::close` meets its contract. Assumes nothing.
use Rattle.std.proofs.Common.{refl}
use Rattle.clip.proofs.LentLaws.{off, closes}
use Rattle.clip.proofs.path.close.Goals as goal

pub returns-in-None : goal.returns-in-None
returns-in-None c = (refl, λ t h. closes h _ (rw c.in-None.is (off h.held)))

pub returns-in-Some : goal.returns-in-Some
returns-in-Some c = (c.join.ensures.1, λ t h. closes h _ (rw c.in-Some.is (rw c.in-Some.is at (c.join.ensures.2 _ h.held))))
