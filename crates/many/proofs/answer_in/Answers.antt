-- `many::answer_in` meets its contract. Assumes nothing.
use mathlib.Core.Path.{ap₂, ◌∙◌}
use native.Mathlib.Omega.{arith}
use Rattle.index.specs.Buffer.{IndexBuffer, buffer}
use Rattle.set.proofs.SetLaws.{fit_within, doubles_outlines}
use Rattle.set.proofs.AskLaws.{starts_put}
use Rattle.set.proofs.FrameLaws.{set_indexed, set_cleared}
use Rattle.search.proofs.SetSearch.{indexed_searched}
use Rattle.many.specs.Answers.{AnswerLists}
use Rattle.many.specs.Work.{many_left, AllAsked}
use Rattle.many.proofs.ManyLaws.{point_fits}
use Rattle.many.proofs.answer_in.Goals as goal

pub put_answers-requires : goal.put_answers-requires
put_answers-requires c =
    let t = c in
    let h = t in
    let s = h in
    let a = s.args in
    let r = s.requires.0 in
    let v = a.set.now.vertices.now in
    let cs = a.set.now.counts.now in
    let B = buffer a.corners.now a.links.now a.items.now in
    let starts = starts_put cs a.starts.now _ s.requires.1.starts t.put_starts.ensures in
    let held = h.all_held.ensures in
    let tree = indexed_searched v cs _ r.ready.fit r.ready.fitting held s.requires.1.some (set_indexed v cs B r.ready _ c.index_in.ensures.0) in
    let asked : AllAsked v cs _ _ a.ps.now = record {
      some = s.requires.1.some;
      few = r.few;
      boxed = c.index_in.ensures.1;
      each = λ i l. record { within = fit_within v cs r.ready.fit; starts = starts; fitting = r.ready.fitting; held = doubles_outlines v cs r.ready.fit held; point = point_fits a.ps.now r.points i l };
    } in
    let n = r.few in
    let o = r.outlines in
    let d = r.distances in
    (asked, tree, (omega arith, omega arith))

pub clear-requires : goal.clear-requires
clear-requires c =
    let l = c in
    let k = l in
    let r = k.requires.0.ready in
    let C = r.corners in
    let L = r.links in
    let I = r.items in
    let gc = k.corners-1.given in
    let gl = l.links-1.given in
    let gi = c.items-1.given in
    (omega arith, omega arith, omega arith)

pub shape_of-starts : goal.shape_of-starts
shape_of-starts c = c.starts-1.given

pub returns : goal.returns
unfolding many_left
returns c =
    let w = c in
    let g = w in
    let s = g in
    let a = s.args in
    let B = buffer a.corners.now a.links.now a.items.now in
    let e = set_cleared a.set.now.vertices.now a.set.now.counts.now B s.requires.0.ready _ g.index_in.ensures.0 in
    ap₂ (λ (B : IndexBuffer) (L : AnswerLists). record { buffer = B; lists = L }) (c.clear.ensures ∙ e) w.put_answers.ensures
