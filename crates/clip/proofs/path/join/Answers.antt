-- `clip::path::join` meets its contract. Assumes nothing.
use Rattle.std.proofs.Common.{not, arith}
use Rattle.clip.proofs.LentLaws.{one_le, if_joint}
use Rattle.clip.proofs.path.join.Goals as goal

pub returns-in-Some : goal.returns-in-Some
returns-in-Some c =
    let p = c.in-Some.p in
    (omega (arith, c.emit.ensures.0, one_le (not c.same_point.result)), c.emit.ensures.1, λ es h. rw c.in-Some.is (rw (c.same_point.ensures, if_joint p.last c.args.q) at (c.emit.ensures.2 es h)))
