-- `clip::path::follow` meets its contract. Assumes nothing.
use Rattle.std.proofs.Common.{refl, ◌∙◌, rules, arith}
use Rattle.clip.specs.Passes.{followed}
use Rattle.clip.proofs.LentLaws.{path_kept}
use Rattle.clip.proofs.path.follow.Goals as goal

pub returns-then-not-kept : goal.returns-then-not-kept
unfolding followed
returns-then-not-kept c = (search rules, refl, λ t h. rw c.if-not-kept.true h)

pub returns : goal.returns
returns c =
    let next = rw c.join-at.auto.out at c.emit-next.ensures in
    (omega (arith, c.emit-next.ensures.0, c.join-at.ensures.0), next.1 ∙ c.join-at.ensures.1, λ t h. rw c.if-not-kept.false (path_kept h c.args.e c.moved.result c.emit-next.result c.moved.ensures (next.2 _ (c.join-at.ensures.2 t.out h.held))))
