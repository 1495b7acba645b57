-- `sorts::dealt` meets its contract. Assumes nothing.
use Rattle.std.proofs.Common.{length, ◌<◌, arith, refl}
use Rattle.sorts.proofs.PartLaws.{dealt_none, dealt_next}
use Rattle.sorts.proofs.dealt.Goals as goal

pub loop-i-init : goal.loop-i-init
loop-i-init c = (c.requires, dealt_none _ _ _)

pub loop-i-preserved : goal.loop-i-preserved
loop-i-preserved c =
    let inv = c.loop-i.invariant in
    let h : c.loop-i.i < length c.loop-i.s = let n = c.loop-i.auto.s in omega arith in
    (inv.0, rw (c.from-a.ensures, c.is_ahead.ensures, c.key.ensures) (dealt_next _ _ _ _ _ _ _ _ _ _ inv.1 h inv.0 refl))
