-- `meeting::copy` meets its contract: the items so far are stored. Assumes nothing.
use Rattle.std.proofs.Common.{◌≡◌, ◌+◌, ◌-◌, refl, ap, ◌∙◌, arith}
use Rattle.lists.specs.Lists.{run}
use Rattle.nodes.specs.Layout.{item_at}
use Rattle.meeting.proofs.WalkLaws.{put_within, no_run, next_item}
use Rattle.meeting.proofs.copy.Goals as goal

pub loop-i-init : goal.loop-i-init
unfolding run
loop-i-init c =
    let p = c.requires.1 in
    let z : c.args.first - c.args.first ≡ 0 = omega arith in
    (p, refl, rw z (no_run _ _ p))

pub loop-i-preserved : goal.loop-i-preserved
loop-i-preserved c =
    let inv = c.loop-i.invariant in
    let same = inv.1 in
    let g = item_at c.args.view.now.items.now in
    let a = c.loop-i.auto.i in
    let e : c.loop-i.i ≡ c.args.first + (c.loop-i.i - c.args.first) = omega arith in
    let n : c.loop-i.i + 1 - c.args.first ≡ c.loop-i.i - c.args.first + 1 = omega arith in
    let pushed = c.push-j.ensures in
    (put_within _ _ _ _ _ pushed, omega arith, rw n (next_item g _ _ _ _ _ _ _ _ _ inv.2 (c.item_at.ensures ∙ ap g e) pushed))
