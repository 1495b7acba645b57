-- `any::any_in` meets its contract. Assumes nothing.
use mathlib.Core.Path.{ap₂, ◌∙◌}
use mathlib.Core.Bool.{Bool}
use Rattle.index.specs.Buffer.{IndexBuffer, buffer}
use Rattle.set.proofs.AskLaws.{starts_put}
use Rattle.set.proofs.FrameLaws.{set_indexed, set_cleared}
use Rattle.any.proofs.any_in.Goals as goal

pub any_found-found-requires : goal.any_found-found-requires
any_found-found-requires c =
    let a = c.args in
    let r = c.requires.0 in
    let B = buffer a.corners.now a.links.now a.items.now in
    let starts = starts_put a.set.now.counts.now a.starts.now _ c.requires.1 c.put_starts.ensures in
    (r.fit, r.fitting, starts, set_indexed a.set.now.vertices.now a.set.now.counts.now B r _ c.index_set.ensures)

pub returns : goal.returns
returns c =
    let a = c.args in
    let B = buffer a.corners.now a.links.now a.items.now in
    let e = set_cleared a.set.now.vertices.now a.set.now.counts.now B c.requires.0 _ c.index_set.ensures in
    ap₂ (λ (r : Bool) (B : IndexBuffer). record { answer = r; lent = B }) c.any_found-found.ensures (c.clear.ensures ∙ e)
