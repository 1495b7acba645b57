-- `nearest::found_in` meets its contract. Assumes nothing.
use mathlib.Core.Path.{ap₂, ◌∙◌}
use native.Mathlib.Omega.{arith}
use Rattle.index.specs.Buffer.{IndexBuffer, buffer}
use Rattle.search.specs.declared.Best.{Best}
use Rattle.search.specs.Walk.{Asked}
use Rattle.set.proofs.SetLaws.{fit_within, doubles_outlines}
use Rattle.set.proofs.AskLaws.{starts_put}
use Rattle.set.proofs.FrameLaws.{set_indexed, set_cleared}
use Rattle.search.proofs.SetSearch.{indexed_searched}
use Rattle.nearest.proofs.found_in.Goals as goal

pub search-best-requires : goal.search-best-requires
search-best-requires c =
    let t = c in
    let h = t in
    let s = h in
    let a = s.args in
    let r = s.requires.0 in
    let v = a.set.now.vertices.now in
    let cs = a.set.now.counts.now in
    let B = buffer a.corners.now a.links.now a.items.now in
    let starts = starts_put cs a.starts.now _ s.requires.2.starts t.put_starts.ensures in
    let held = h.all_held.ensures in
    let tree = indexed_searched v cs _ r.fit r.fitting held s.requires.2.some (set_indexed v cs B r _ c.index_in.ensures.0) in
    let asked : Asked v cs _ a.p = record { within = fit_within v cs r.fit; starts = starts; fitting = r.fitting; held = doubles_outlines v cs r.fit held; point = s.requires.1 } in
    (asked, c.index_in.ensures.1, tree, s.requires.2.some)

pub clear-requires : goal.clear-requires
clear-requires c =
    let l = c in
    let k = l in
    let s = k in
    let C = s.requires.0.corners in
    let L = s.requires.0.links in
    let I = s.requires.0.items in
    let gc = k.corners-1.given in
    let gl = l.links-1.given in
    let gi = c.items-1.given in
    (omega arith, omega arith, omega arith)

pub returns : goal.returns
returns c =
    let w = c in
    let g = w in
    let s = g in
    let a = s.args in
    let B = buffer a.corners.now a.links.now a.items.now in
    let e = set_cleared a.set.now.vertices.now a.set.now.counts.now B s.requires.0 _ g.index_in.ensures.0 in
    ap₂ (λ (r : Best) (B : IndexBuffer). record { answer = r; lent = B }) w.search-best.ensures (c.clear.ensures ∙ e)
