-- `fill::cell::clip_x` meets its contract. Assumes nothing.
use mathlib.Core.Path.{◌∙◌}
use mathlib.Core.Bool.{false}
use Rattle.clip.proofs.StageLaws.{begins, empty}
use Rattle.clip.proofs.ShortenedLaws.{shortened_clips}
use Rattle.fill.specs.Fill.{high_x_of}
use Rattle.clip.proofs.LentLaws.{front_lines}
use Rattle.clip.specs.Lent.{half_in}
use Rattle.fill.proofs.cell.clip_x.Goals as goal

pub returns-then-a-eq0 : goal.returns-then-a-eq0
returns-then-a-eq0 c =
    let q = c in
    let first = rw c.side.ensures at c.clip-first.ensures in
    let told = rw first.same at c.counted-a.ensures in (
      first.same,
      first.rest,
      λ es h.
          let k = shortened_clips h in
          let one = first.staged false _ (begins (front_lines (half_in q.args.w.now) q.args.w.now q.args.n) q.requires.0) in
          rw (← k.same_list) at (empty (told _ _ _ k.longer_by one) (high_x_of q.args.c) c.if-a-eq0.true),
    )

pub returns : goal.returns
returns c =
    let c10 = c in
    let q = c10 in
    let first = rw c10.side.ensures at c10.clip-first.ensures in
    let told = rw first.same at c.counted-a.ensures in
    let second = rw (c.side-2.ensures, first.same) at c.clip.ensures in (
      second.same ∙ first.same,
      second.rest ∙ first.rest,
      λ es h.
          let k = shortened_clips h in
          let one = first.staged false _ (begins (front_lines (half_in q.args.w.now) q.args.w.now q.args.n) q.requires.0) in
          rw (← k.same_list) at (second.staged _ _ (told _ _ _ k.longer_by one)),
    )
