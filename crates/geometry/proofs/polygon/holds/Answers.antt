-- `geometry::polygon::holds` meets its contract: whether the edges so far count oddly, and the edges that are left, give whether all do, in the Rust's order. Assumes nothing.
use mathlib.Core.Path.{◌≡◌, refl, sym, ◌∙◌}
use mathlib.Core.Bool.{Bool}
use Prim.Native.Nat.{ℕ, zero, suc, ◌+◌, ◌<◌}
use native.Mathlib.Nat.{sub-zero}
use native.Mathlib.Omega.{arith}
use borrow.Author.Rules.{rules}
use borrow.Author.Tests.{ne_eqb}
use lib.Ieee.{unlike}
use Rattle.boundary.specs.declared.Point.{Point}
use Rattle.boundary.specs.declared.Edge.{Edge}
use Rattle.lists.specs.Lists.{run, fold, odd_many}
use Rattle.boundary.specs.Outline.{count, edges}
use Rattle.lists.proofs.FoldLaws.{fold_run_next, fold_run_end}
use Rattle.geometry.specs.Polygon.{crosses_of, contains_of, previous, contains_rust}
use Rattle.geometry.proofs.ContainsLaws.{contains_rust_lem}
use Rattle.geometry.proofs.polygon.holds.Goals as goal

abbrev step : Point → Bool → Edge → Bool
step p b e = unlike b (crosses_of p e)

before-less : (n i : ℕ) → i < n → previous n i < n
before-less n zero l = omega arith
before-less n (suc k) l = rw (ne_eqb (suc k) 0 (λ e. omega arith)) (omega arith)

before-next : (n i : ℕ) → i ≡ previous n (i + 1)
before-next n i = rw (ne_eqb (i + 1) 0 (λ e. omega arith)) (omega arith)

pub returns-then-n-eq0 : goal.returns-then-n-eq0
unfolding contains_of odd_many fold run edges
returns-then-n-eq0 c =
    let e : count c.args.v.now ≡ 0 = omega arith in
    rw e

pub loop-i-init : goal.loop-i-init
unfolding contains_rust odd_many
loop-i-init c = (search rules, refl, rw c.vertex_at.ensures, rw sub-zero)

pub turned_odd-inside-requires : goal.turned_odd-inside-requires
turned_odd-inside-requires c =
    let inv = c.loop-i.invariant in
    let l = c.loop-i-test.true in
    (rw inv.1 (before-less _ _ l), l, inv.2, rw c.vertex_at-in-loop-i.ensures)

pub loop-i-preserved : goal.loop-i-preserved
loop-i-preserved c =
    let inv = c.loop-i.invariant in
    let l = c.loop-i-test.true in
    let e = c.turned_odd-inside.ensures in (
      inv.0,
      before-next _ _,
      rw c.vertex_at-in-loop-i.ensures,
      rw (e, inv.1) (sym (fold_run_next (step _) _ _ _ _ l) ∙ inv.3),
    )

pub returns : goal.returns
returns c = sym (fold_run_end (step _) _ _ _ _ c.loop-i-test.false) ∙ c.loop-i.invariant.3 ∙ sym (contains_rust_lem _ _)
