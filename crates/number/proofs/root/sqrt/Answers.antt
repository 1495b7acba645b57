-- `number::root::sqrt` meets its contract: each branch is a case of `sqrt_of`. Assumes nothing.
use Rattle.std.proofs.Common.{◌≡◌, ◌/◌, ◌%◌, ◌^◌, true, false, T, sym, ap, ◌∙◌, subst, arith}
use lib.Ieee.{Float, inf, lt, binary64, fits, of_bits, to_bits, div}
use Rattle.number.specs.Exact.{zeroᶠ}
use Rattle.number.specs.Root.{root_of}
use Rattle.number.proofs.Fields.{Main, main_law, is_positive, at_infinity, not_above, Moved, moved}
use Rattle.number.proofs.root.sqrt.Goals as goal

-- what owning an `f64` tells, `true ≡ fits ..`, and the two tests
main_at : (x : Float) → fits binary64 x ≡ true → lt zeroᶠ x ≡ true → lt x (inf false) ≡ true → Main x (to_bits binary64 x)
main_at x w p q = main_law x (subst T (sym w) tt) (is_positive x p q)

moved_at : (x : Float) → Main x (to_bits binary64 x) → to_bits binary64 x / 2 ^ 52 ≡ 0 → Moved (to_bits binary64 x % 2 ^ 52)
moved_at x m e = moved (to_bits binary64 x % 2 ^ 52) (m.some e) (omega arith)

pub overflow_sub-t : goal.overflow_sub-t
unfolding of_bits div
overflow_sub-t c = (moved_at c.args.x (main_at c.args.x c.well_formed.0.1 c.if-x.true c.if-x-2.true) c.if-e-eq0.true).eleven

pub overflow_add-i-then-e-eq0 : goal.overflow_add-i-then-e-eq0
unfolding of_bits div
overflow_add-i-then-e-eq0 c =
    let v = moved_at c.args.x (main_at c.args.x c.well_formed.0.1 c.if-x.true c.if-x-2.true) c.if-e-eq0.true in
    rw c.from-l.ensures (omega (arith, v.hi))

pub root_of-requires : goal.root_of-requires
unfolding of_bits div
root_of-requires c =
    let v = moved_at c.args.x (main_at c.args.x c.well_formed.0.1 c.if-x.true c.if-x-2.true) c.if-e-eq0.true in
    rw c.from-l.ensures (v.lo, v.hi, omega (arith, v.far), omega (arith, v.far), omega (arith, v.hi))

pub returns-then-e-eq0 : goal.returns-then-e-eq0
unfolding of_bits div
returns-then-e-eq0 c =
    let m = main_at c.args.x c.well_formed.0.1 c.if-x.true c.if-x-2.true in
    (rw c.from-l.ensures at c.root_of.ensures) ∙ ap root_of (moved_at c.args.x m c.if-e-eq0.true).same ∙ sym (m.under c.if-e-eq0.true)

pub overflow_add-e : goal.overflow_add-e
unfolding of_bits div
overflow_add-e c = omega (arith, (main_at c.args.x c.well_formed.0.1 c.if-x.true c.if-x-2.true).field)

pub root_of-requires-then-x-2 : goal.root_of-requires-then-x-2
unfolding of_bits div
root_of-requires-then-x-2 c = omega (arith, (main_at c.args.x c.well_formed.0.1 c.if-x.true c.if-x-2.true).field)

pub returns-then-x-2 : goal.returns-then-x-2
unfolding of_bits div
returns-then-x-2 c = c.root_of-then-x-2.ensures ∙ sym ((main_at c.args.x c.well_formed.0.1 c.if-x.true c.if-x-2.true).over c.if-e-eq0.false)

pub returns-then-x : goal.returns-then-x
unfolding of_bits div
returns-then-x c = at_infinity c.args.x c.if-x.true c.if-x-2.false

pub returns : goal.returns
unfolding of_bits div
returns c = c.pick.ensures ∙ not_above c.args.x c.if-x.false
