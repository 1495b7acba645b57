-- `meeting::visit` meets its contract. Assumes nothing.
use Rattle.meeting.proofs.WalkLaws.{put_within, two_runs, no_run, same_run, hits_none, hits_apart, hits_leaf, hits_inner}
use Rattle.index.specs.Buffer.{buffer}
use Rattle.meeting.specs.Walk.{hits}
use Prim.Native.Nat.{◌+◌, ◌-◌}
use mathlib.Core.Path.{sym, ◌∙◌}
use borrow.Author.Rules.{rules}
use Rattle.meeting.proofs.+visit.Goals as goal

pub returns-then-depth-eq0 : goal.returns-then-depth-eq0
returns-then-depth-eq0 t c =
    let a = c.args in
    same_run _ _ _ _ _ _ (hits_none (buffer a.view.now.corners.now a.view.now.links.now a.view.now.items.now) a.c a.n a.depth c.if-depth-eq0.true) (no_run _ _ c.requires.1)

pub returns-then-misses : goal.returns-then-misses
returns-then-misses t c =
    let a = c.args in
    same_run _ _ _ _ _ _ (hits_apart (buffer a.view.now.corners.now a.view.now.links.now a.view.now.items.now) a.c a.n a.depth (sym c.misses.ensures ∙ c.if-misses.true)) (no_run _ _ c.requires.1)

pub returns-then-count-gt0 : goal.returns-then-count-gt0
returns-then-count-gt0 t c =
    let a = c.args in
    let B = buffer a.view.now.corners.now a.view.now.links.now a.view.now.items.now in
    let meets = sym c.misses.ensures ∙ c.if-misses.false in
    same_run _ _ _ _ _ _
    (hits_leaf B a.c a.n a.depth c.first_at-first.result c.count_at-count.result c.if-depth-eq0.false meets c.first_at-first.ensures c.count_at-count.ensures c.if-count-gt0.true)
    c.copy.ensures

pub visit-requires : goal.visit-requires
visit-requires t c = let w = put_within _ _ _ _ _ c.visit-j.ensures in search rules

pub returns : goal.returns
returns t c =
    let a = c.args in
    let B = buffer a.view.now.corners.now a.view.now.links.now a.view.now.items.now in
    let first = c.first_at-first in
    let count = c.count_at-count in
    let f = first.result in
    let meets = sym c.misses.ensures ∙ c.if-misses.false in
    let below = hits (a.depth - 1) B a.c in
    same_run _ _ _ _ _ _
    (hits_inner B a.c a.n a.depth f count.result c.if-depth-eq0.false meets first.ensures count.ensures c.if-count-gt0.false)
    (two_runs _ _ _ _ c.visit-j.result _ (below f) (below (f + 1)) c.visit-j.ensures c.visit.ensures)
