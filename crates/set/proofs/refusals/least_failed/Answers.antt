-- `set::refusals::least_failed` meets its contract: the least so far and the outlines that are left give the least of all. Assumes nothing.
use mathlib.Core.Path.{refl, sym, ◌∙◌}
use mathlib.Core.List.{List}
use Prim.Native.Nat.{ℕ, ◌+◌, ◌*◌, min}
use native.Mathlib.Nat.{sub-zero}
use native.Mathlib.Omega.{arith}
use borrow.Author.Rules.{rules}
use lib.ListN.{get_or}
use lib.Ieee.{Float}
use Rattle.lists.proofs.FoldLaws.{fold_run_next, fold_run_end}
use Rattle.set.specs.Set.{start_of, outline_at, outlines_of}
use Rattle.set.specs.OnePass.{first_failed, least_failed}
use Rattle.set.proofs.SetLaws.{start_next, part_within, part_is}
use Rattle.set.proofs.refusals.least_failed.Goals as goal

abbrev step : ℕ → List Float → ℕ
step n o = min n (first_failed o)

pub loop-count-init : goal.loop-count-init
unfolding least_failed outlines_of start_of
loop-count-init c = (search rules, rw sub-zero)

pub overflow_add-end : goal.overflow_add-end
overflow_add-end c =
    let a = c.args in
    let i = c.loop-count.invariant.0 in
    let h = part_within a.set.now.vertices.now a.set.now.counts.now c.requires c.loop-count.count-index c.loop-count-test.true in
    search rules

pub rank_in-rank-requires : goal.rank_in-rank-requires
rank_in-rank-requires c =
    let a = c.args in
    let i = c.loop-count.invariant.0 in
    let h = part_within a.set.now.vertices.now a.set.now.counts.now c.requires c.loop-count.count-index c.loop-count-test.true in
    (omega arith, omega arith)

pub loop-count-preserved : goal.loop-count-preserved
loop-count-preserved c =
    let a = c.args in
    let i = c.loop-count.invariant.0 in
    let n = start_next a.set.now.counts.now c.loop-count.count-index in (
      omega arith,
      rw (c.min-least.ensures, c.rank_in-rank.ensures, part_is a.set.now.vertices.now a.set.now.counts.now c.loop-count.count-index c.loop-count.at (c.loop-count.at + 2 * get_or a.set.now.counts.now c.loop-count.count-index 0) i refl)
          (sym (fold_run_next step (outline_at a.set.now.vertices.now a.set.now.counts.now) _ _ _ c.loop-count-test.true) ∙ c.loop-count.invariant.1),
    )

pub returns : goal.returns
returns c = sym (fold_run_end step _ _ _ _ c.loop-count-test.false) ∙ c.loop-count.invariant.1
