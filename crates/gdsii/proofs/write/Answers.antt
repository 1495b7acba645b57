-- `gdsii::write` meets its contract: what is left of an accepted stream is accepted; a turn passes one record. Assumes nothing.
use native.Mathlib.Omega.{arith}
use borrow.Author.Tests.{eq-eqb, ne_eqb}
use Rattle.gdsii.specs.Work.{AtRecord}
use Rattle.gdsii.proofs.PlaceLaws.{read_at}
use Rattle.gdsii.proofs.WriteLaws.{begins_writing, same_sizes, all_written, opens, moves, passes, joins, writes}
use borrow.Author.Rules.{rules}
use Rattle.gdsii.proofs.write.Goals as goal
use Rattle.gdsii.proofs.write.Goals.{then-t-eq4099, else-t-eq4099}

pub loop-done-init : goal.loop-done-init
loop-done-init c = begins_writing _ _ _ _ _ c.requires

pub pair_at-size-requires : goal.pair_at-size-requires
pair_at-size-requires c =
    let o = opens c.loop-done.invariant c.loop-done-test.true in
    search rules

pub pair_at-t-requires : goal.pair_at-t-requires
pair_at-t-requires c =
    let o = opens c.loop-done.invariant c.loop-done-test.true in
    search rules

pub overflow_sub-size : goal.overflow_sub-size
overflow_sub-size c =
    let l = c.loop-done.invariant in
    let f = c.loop-done-test.true in
    let r : AtRecord c.args.s.now c.loop-done.at c.pair_at-t.result c.pair_at-size.result = read_at (opens l f) c.pair_at-t.ensures c.pair_at-size.ensures in
    (moves l f r).0

pub write_outline-done-requires : goal.write_outline-done-requires
write_outline-done-requires c =
    let l = c.loop-done.invariant in
    let f = c.loop-done-test.true in
    let r : AtRecord c.args.s.now c.loop-done.at c.pair_at-t.result c.pair_at-size.result = read_at (opens l f) c.pair_at-t.ensures c.pair_at-size.ensures in
    joins l f r (eq-eqb _ _ c.if-t-eq4099.true)

pub loop-done-smaller : goal.loop-done-smaller
loop-done-smaller c =
    let l = c.loop-done.invariant in
    let f = c.loop-done-test.true in
    let r : AtRecord c.args.s.now c.loop-done.at c.pair_at-t.result c.pair_at-size.result = read_at (opens l f) c.pair_at-t.ensures c.pair_at-size.ensures in
    let h = moves l f r in
    omega arith

pub loop-done-preserved : goal.loop-done-preserved
loop-done-preserved c =
    let l = c.loop-done.invariant in
    let f = c.loop-done-test.true in
    let r : AtRecord c.args.s.now c.loop-done.at c.pair_at-t.result c.pair_at-size.result = read_at (opens l f) c.pair_at-t.ensures c.pair_at-size.ensures in
    elim c.if-t-eq4099.branch [
      | then-t-eq4099 w ↦ rw (w.done-is, w.vertices-is, w.counts-is) (writes l f r (eq-eqb _ _ w.if-t-eq4099.true) w.write_outline-done.ensures.value w.write_outline-done.ensures.set_after)
      | else-t-eq4099 w ↦ rw (w.done-is, w.vertices-is, w.counts-is) (passes l f r (ne_eqb _ _ w.if-t-eq4099.false))
    ]

pub shape_of-vertices : goal.shape_of-vertices
shape_of-vertices c = let l = same_sizes c.loop-done.invariant in search rules

pub shape_of-counts : goal.shape_of-counts
shape_of-counts c = let l = same_sizes c.loop-done.invariant in search rules

pub returns : goal.returns
returns c = all_written c.loop-done.invariant c.loop-done-test.false
