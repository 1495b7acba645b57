-- `many::answer` meets its contract. Assumes nothing.
use native.Mathlib.Omega.{arith}
use Rattle.many.proofs.answer.Goals as goal

pub answer_in-requires : goal.answer_in-requires
answer_in-requires c =
    let n = c.requires.0.ready.fit.size in
    (c.requires.0, record { some = c.requires.1; starts = n; boxes = omega arith })
