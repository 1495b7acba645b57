-- `accept::refusals::edges_tested` meets its contract: what was summed so far and the edges that are left give both answers. Assumes nothing.
use mathlib.Core.Path.{◌≡◌, sym, ap, ◌∙◌}
use mathlib.Core.Bool.{Bool, ◌||◌}
use Prim.Native.Nat.{◌+◌, ◌≤◌}
use native.Mathlib.Nat.{sub-zero}
use native.Mathlib.Omega.{arith}
use borrow.Author.Rules.{rules}
use lib.Ieee.{Float, binary64, add, of_bits}
use Rattle.boundary.specs.declared.Edge.{Edge}
use Rattle.lists.specs.Lists.{run, fold, any, total}
use Rattle.boundary.specs.Outline.{same_point, count, edges}
use Rattle.boundary.proofs.OutlineLaws.{next_edge, last_edge}
use Rattle.lists.proofs.FoldLaws.{fold_run_next, fold_run_end, fold_found}
use Rattle.accept.specs.Area.{shoelace_term, area_of}
use Rattle.accept.specs.Verdicts.{edges_verdict}
use Rattle.accept.proofs.refusals.edges_tested.Goals as goal

abbrev joins : Edge → Bool
joins e = same_point e.a e.b

abbrev found : Bool → Edge → Bool
found b e = b || joins e

abbrev summed : Float → Edge → Float
summed s e = add binary64 s (shoelace_term e)

pub returns-then-n-eq0 : goal.returns-then-n-eq0
unfolding any total fold run edges area_of of_bits
returns-then-n-eq0 g c =
    let e : count (g.V.Vertices.numbers c.args.v) ≡ 0 = omega arith in
    rw (e, c.area_tested.ensures)

pub loop-i-init : goal.loop-i-init
unfolding any total edges of_bits
loop-i-init g c = (search rules, c.vertex-first.ensures, rw sub-zero, rw sub-zero)

pub returns-then-same_point : goal.returns-then-same_point
unfolding edges_verdict
returns-then-same_point g c =
    let q = c in
    let inv = q.loop-i.invariant in
    let e = next_edge (g.V.Vertices.numbers q.args.v) q.loop-i.i q.loop-i.a c.vertex-b.result inv.0 inv.1 (omega arith) c.vertex-b.ensures in
    let s = sym (ap joins e) ∙ sym c.same_point.ensures ∙ c.if-same_point.true in
    rw (← inv.2, fold_run_next found _ _ _ _ inv.0, s, fold_found joins)

pub loop-i-preserved : goal.loop-i-preserved
loop-i-preserved g c =
    let d = c in
    let q = d in
    let inv = q.loop-i.invariant in
    let e = next_edge (g.V.Vertices.numbers q.args.v) q.loop-i.i q.loop-i.a d.vertex-b.result inv.0 inv.1 (omega arith) d.vertex-b.ensures in
    let s = sym (ap joins e) ∙ sym c.same_point.ensures ∙ c.if-same_point.false in (
      search rules,
      d.vertex-b.ensures,
      rw s at (sym (fold_run_next found _ _ _ _ inv.0) ∙ inv.2),
      rw (c.shoelace_term-sum.ensures ∙ ap shoelace_term e) (sym (fold_run_next summed _ _ _ _ inv.0) ∙ inv.3),
    )

pub returns : goal.returns
unfolding area_of
returns g c =
    let l : count (g.V.Vertices.numbers c.args.v) ≤ c.loop-i.i + 1 = omega arith in
    let q = c in
    let inv = q.loop-i.invariant in
    let e = last_edge (g.V.Vertices.numbers q.args.v) q.loop-i.i q.loop-i.a q.vertex-first.result inv.0 inv.1 l q.vertex-first.ensures in
    let same = sym inv.2 ∙ fold_run_next found _ _ _ _ inv.0 ∙ fold_run_end found _ _ _ _ l ∙ sym (ap joins e) in
    let sums = sym inv.3 ∙ fold_run_next summed _ _ _ _ inv.0 ∙ fold_run_end summed _ _ _ _ l ∙ sym (ap (summed q.loop-i.sum) e) in
    rw (same, sums, c.last_tested.ensures)
