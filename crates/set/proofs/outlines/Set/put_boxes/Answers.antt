-- `set::outlines::Set::put_boxes` meets its contract: the boxes so far stand at the front. Assumes nothing.
use mathlib.Core.Path.{refl, ap, ◌∙◌}
use mathlib.Core.List.{List, flat_map}
use native.Mathlib.Nat.{le_antisymm}
use native.Mathlib.Omega.{arith}
use lib.ListN.{length}
use lib.Seq.{length-sets}
use lib.Ieee.{Float}
use Rattle.lists.specs.Lists.{run}
use Rattle.boundary.specs.Outline.{vertices}
use Rattle.geometry.specs.Polygon.{bounds_of}
use Rattle.boxes.specs.BoxLists.{box_numbers}
use Rattle.lists.proofs.StoreLaws.{flat_more}
use Rattle.set.specs.Set.{start_of, outline_at, outlines_of, set_boxes}
use Rattle.set.proofs.SetLaws.{start_next, part_within, part_is}
use borrow.Author.Rules.{rules}
use Rattle.set.proofs.outlines.Set.put_boxes.Goals as goal

abbrev boxed : List Float → List Float
boxed o = box_numbers (bounds_of (vertices o))

pub loop-k-init : goal.loop-k-init
unfolding run flat_map start_of
loop-k-init c = (search rules, refl)

pub overflow_add-end : goal.overflow_add-end
overflow_add-end c =
    let d = c in
    let a = d.args in
    let i = c.loop-k.invariant.0 in
    let w = part_within a.self.now.vertices.now a.self.now.counts.now d.requires.1 c.loop-k.k c.loop-k-test.true in
    search rules

pub put_box-requires : goal.put_box-requires
put_box-requires c =
    let d = c in
    let a = d.args in
    let i = c.loop-k.invariant.0 in
    let s = d.requires.0 in
    let t = c.loop-k-test.true in
    let w = part_within a.self.now.vertices.now a.self.now.counts.now d.requires.1 c.loop-k.k t in
    (omega arith, omega arith, omega arith)

pub loop-k-preserved : goal.loop-k-preserved
loop-k-preserved c =
    let d = c in
    let a = d.args in
    let i = c.loop-k.invariant.0 in
    let n = start_next a.self.now.counts.now c.loop-k.k in
    let same = part_is a.self.now.vertices.now a.self.now.counts.now c.loop-k.k _ _ i refl in
    (omega arith, flat_more boxed 4 (λ _. refl) _ _ _ (outline_at a.self.now.vertices.now a.self.now.counts.now) _ _ c.loop-k.invariant.1 same c.put_box.ensures)

pub shape_of-boxes : goal.shape_of-boxes
shape_of-boxes c = ap length c.loop-k.invariant.1 ∙ simp length-sets

pub returns : goal.returns
unfolding set_boxes outlines_of
returns c =
    rw (← le_antisymm (search rules) c.loop-k-test.false) c.loop-k.invariant.1
