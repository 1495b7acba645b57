-- `clip::path::emit` meets its contract. Assumes nothing.
use Rattle.std.proofs.Common.{◌*◌, ap, ◌∙◌, drop, arith}
use native.Mathlib.Nat.{zero-add}
use Rattle.clip.specs.Lent.{room_of}
use Rattle.clip.proofs.LentLaws.{put_below, on}
use Rattle.clip.proofs.path.emit.Goals as goal

pub returns-then-at-out : goal.returns-then-at-out
returns-then-at-out c =
    let e = c.if-not-on.false in
    let a = c.args in
    let past = 4 * room_of a.out.now in (
      rw e,
      ap (drop past) c.put.ensures ∙ put_below a.out.now (4 * a.at) past a.e (omega (arith, c.if-at-out.true)),
      λ es h. rw (e, c.put.ensures) (rw (zero-add (4 * a.at)) at (on h a.e c.if-at-out.true (omega arith))),
    )
