-- `gdsii::measure` meets its contract: what is left gives the whole answer; a turn reads one record. Assumes nothing.
use Rattle.accept.proofs.TestLaws.{handed_on}
use mathlib.Core.Path.{sym, ◌∙◌}
use Prim.Native.Nat.{◌+◌, ◌≤◌}
use native.Mathlib.Omega.{arith}
use lib.ListN.{length}
use Rattle.gdsii.proofs.PlaceLaws.{read_at}
use Rattle.gdsii.proofs.MeasureLaws.{begins_measuring, sizes, all_read, none_refuses, Turn, turn_refuses, turn_forward, turn_advances}
use borrow.Author.Rules.{rules}
use Rattle.gdsii.proofs.measure.Goals as goal

pub loop-asked-init : goal.loop-asked-init
loop-asked-init c = begins_measuring _ _ c.requires

pub returns-then-s-at-lt4 : goal.returns-then-s-at-lt4
returns-then-s-at-lt4 c = none_refuses c.loop-asked.invariant (sym c.is_at_end.ensures ∙ c.loop-asked-test.true) c.if-s-at-lt4.true _

pub record_read-requires : goal.record_read-requires
record_read-requires c =
    let i = sizes c.loop-asked.invariant in
    (read_at (search rules) c.pair_at-t.ensures c.pair_at-size.ensures, i.0, i.1)

pub returns-in_err-done : goal.returns-in_err-done
returns-in_err-done c =
    let h : c.loop-asked.at + 4 ≤ length c.args.s.now = search rules in
    let u : Turn c.args.s.now c.loop-asked.asked c.loop-asked.at c.loop-asked.done c.loop-asked.signs c.pair_at-t.result c.pair_at-size.result c.asked_after-then.result c.record_read.result =
    record {
      stands = c.loop-asked.invariant;
      more = sym c.is_at_end.ensures ∙ c.loop-asked-test.true;
      here = read_at h c.pair_at-t.ensures c.pair_at-size.ensures;
      asks = c.asked_after-then.ensures;
      gives = c.record_read.ensures.value;
    } in
    rw (handed_on c.from_residual.ensures.1) (turn_refuses u c.in_err-done.was _)

pub loop-asked-smaller : goal.loop-asked-smaller
loop-asked-smaller c =
    let h : c.loop-asked.at + 4 ≤ length c.args.s.now = search rules in
    let u : Turn c.args.s.now c.loop-asked.asked c.loop-asked.at c.loop-asked.done c.loop-asked.signs c.pair_at-t.result c.pair_at-size.result c.asked_after-then.result c.record_read.result =
    record {
      stands = c.loop-asked.invariant;
      more = sym c.is_at_end.ensures ∙ c.loop-asked-test.true;
      here = read_at h c.pair_at-t.ensures c.pair_at-size.ensures;
      asks = c.asked_after-then.ensures;
      gives = c.record_read.ensures.value;
    } in
    let f = turn_forward u c.in_ok-done.was in
    omega arith

pub loop-asked-preserved : goal.loop-asked-preserved
loop-asked-preserved c =
    let h : c.loop-asked.at + 4 ≤ length c.args.s.now = search rules in
    let u : Turn c.args.s.now c.loop-asked.asked c.loop-asked.at c.loop-asked.done c.loop-asked.signs c.pair_at-t.result c.pair_at-size.result c.asked_after-then.result c.record_read.result =
    record {
      stands = c.loop-asked.invariant;
      more = sym c.is_at_end.ensures ∙ c.loop-asked-test.true;
      here = read_at h c.pair_at-t.ensures c.pair_at-size.ensures;
      asks = c.asked_after-then.ensures;
      gives = c.record_read.ensures.value;
    } in
    turn_advances u c.in_ok-done.was (c.record_read.ensures.signs_after _ c.in_ok-done.was)

pub returns : goal.returns
returns c = all_read c.loop-asked.invariant (sym c.is_at_end.ensures ∙ c.loop-asked-test.false)
