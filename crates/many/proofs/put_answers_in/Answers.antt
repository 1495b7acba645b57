-- `many::put_answers_in` meets its contract: the answers so far stand at the front of both lists. Assumes nothing.
use mathlib.Core.Path.{refl, sym, ap, ◌∙◌}
use native.Mathlib.Nat.{le_antisymm}
use native.Mathlib.Omega.{arith}
use lib.ListN.{length}
use lib.Seq.{length-sets}
use Rattle.boundary.specs.Outline.{vertex_at}
use Rattle.lists.specs.Lists.{run}
use Rattle.lists.proofs.StoreLaws.{sets_more}
use Rattle.search.specs.declared.Best.{Best}
use Rattle.nearest.specs.declared.NearestFields.{NearestFields}
use Rattle.set.specs.Set.{outlines_of}
use Rattle.set.proofs.SetLaws.{outlines_length}
use Rattle.nearest.proofs.NearestLeast.{answer_best}
use Rattle.many.proofs.ManyLaws.{answer_at, lists_written}
use borrow.Author.Rules.{rules}
use Rattle.many.proofs.put_answers_in.Goals as goal

pub loop-i-init : goal.loop-i-init
unfolding run
loop-i-init c = (refl, refl)

pub search_in-best-requires : goal.search_in-best-requires
search_in-best-requires c =
    let A = c.requires.0 in
    (rw c.vertex_at-p.ensures (A.each c.loop-i.i (search rules)), A.boxed, c.requires.1, A.some)

pub loop-i-preserved : goal.loop-i-preserved
loop-i-preserved c =
    let a = c.args in
    let os = outlines_of a.view.now.set.vertices.now a.view.now.set.counts.now in
    let n = outlines_length a.view.now.set.vertices.now a.view.now.set.counts.now in
    let m = c.requires.0.some in
    let e = sym (answer_best os (vertex_at a.ps.now c.loop-i.i) (omega arith)) in
    let f = rw c.vertex_at-p.ensures at c.search_in-best.ensures in (
      sets_more _ _ _ (λ k. (answer_at os a.ps.now k).outline) _ _ c.loop-i.invariant.0 (ap (λ (x : Best). x.outline) f ∙ ap (λ (x : NearestFields). x.outline) e) c.put.ensures,
      sets_more _ _ _ (λ k. (answer_at os a.ps.now k).distance) _ _ c.loop-i.invariant.1 (ap (λ (x : Best). x.distance) f ∙ ap (λ (x : NearestFields). x.distance) e) c.put-in-loop-i.ensures,
    )

pub shape_of-near : goal.shape_of-near
shape_of-near c = ap length c.loop-i.invariant.0 ∙ simp length-sets

pub shape_of-distances : goal.shape_of-distances
shape_of-distances c = ap length c.loop-i.invariant.1 ∙ simp length-sets

pub returns : goal.returns
returns c =
    let a = c.args in
    let inv = c.loop-i.invariant in
    let z = le_antisymm (search rules) c.loop-i-test.false in
    rw (inv.0, inv.1, z) (lists_written (outlines_of a.view.now.set.vertices.now a.view.now.set.counts.now) a.ps.now a.near.now a.distances.now c.requires.2.0 c.requires.2.1)
