-- `clip::halves::clip` meets its contract. Assumes nothing.
use mathlib.Core.Path.{refl}
use Rattle.clip.proofs.StageLaws.{empty}
use Rattle.clip.proofs.halves.clip.Goals as goal

pub returns-then-n-eq0 : goal.returns-then-n-eq0
returns-then-n-eq0 c = record { same = refl; rest = refl; staged = λ long es h. empty h _ c.if-n-eq0.true; untouched = λ es h a. record { unwritten = refl; stands = refl } }
