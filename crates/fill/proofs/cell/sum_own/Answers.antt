-- `fill::cell::sum_own` meets its contract: the sum so far and the edges that are left give the whole. Assumes nothing.
use mathlib.Core.Path.{◌≡◌, sym, ap, ◌∙◌}
use Prim.Native.Nat.{ℕ, ◌+◌, ◌-◌, ◌≤◌, ◌<◌}
use native.Mathlib.Nat.{sub-zero}
use native.Mathlib.Omega.{arith}
use lib.Ieee.{Float, binary64, add, of_bits}
use Rattle.boundary.specs.declared.Edge.{Edge}
use Rattle.boundary.specs.Outline.{count, edges}
use Rattle.boundary.proofs.OutlineLaws.{next_edge, last_edge}
use Rattle.lists.specs.Lists.{run, fold, total}
use Rattle.lists.proofs.FoldLaws.{fold_run_next, fold_run_end}
use Rattle.fill.specs.Fill.{xdy_of}
use Rattle.fill.proofs.cell.sum_own.Goals as goal

abbrev summed : Float → Edge → Float
summed s e = add binary64 s (xdy_of e)

next_sum : (g : ℕ → Edge) (a t : Float) (i n : ℕ) → 1 ≤ i → i - 1 < n → fold summed a (run g (i - 1) (n - (i - 1))) ≡ t → fold summed (summed a (g (i - 1))) (run g i (n - i)) ≡ t
next_sum g a t i n h l e = let back : i - 1 + 1 ≡ i = omega arith in rw back at (sym (fold_run_next summed g a (i - 1) n l) ∙ e)

pub loop-i-init : goal.loop-i-init
unfolding total edges of_bits
loop-i-init c = (c.vertex_at-first.ensures, rw sub-zero)

pub loop-i-preserved : goal.loop-i-preserved
loop-i-preserved c =
    let i = c.loop-i.i in
    let inv = c.loop-i.invariant in
    let here : i + 1 - 1 ≡ i = omega arith in
    let back : i - 1 + 1 ≡ i = omega arith in
    let e = next_edge c.args.v.now (i - 1) c.loop-i.a c.vertex_at-b.result (omega arith) inv.0 (omega arith) (rw back c.vertex_at-b.ensures) in
    rw here (c.vertex_at-b.ensures, rw (c.x_dy-area.ensures ∙ ap xdy_of e) (next_sum _ _ _ i (count c.args.v.now) (omega arith) (omega arith) inv.1))

pub returns : goal.returns
returns c =
    let i = c.loop-i.i in
    let inv = c.loop-i.invariant in
    let all : count c.args.v.now ≤ i - 1 + 1 = omega arith in
    let e = last_edge c.args.v.now (i - 1) c.loop-i.a c.vertex_at-first.result (omega arith) inv.0 all c.vertex_at-first.ensures in
    rw (c.x_dy.ensures ∙ ap xdy_of e) (sym (fold_run_end summed _ _ _ _ all) ∙ sym (fold_run_next summed _ _ _ _ (omega arith)) ∙ inv.1)
