-- `clip::scan::first_pass` meets its contract: the lines so far do not come in, and the lines that are left give the start. Assumes nothing.
use Rattle.std.proofs.Common.{◌-◌, Bool, cond, sym, ap, ◌∙◌, arith}
use native.Mathlib.Nat.{add-zero}
use Rattle.lists.proofs.RunLaws.{length_run}
use Rattle.clip.specs.declared.Marks.{Marks}
use Rattle.clip.specs.declared.FirstPass.TheVariants.{StartsAt, AllKept, NoneKept}
use Rattle.clip.specs.Passes.{marks_of}
use Rattle.clip.specs.Lent.{room_of, line_in}
use Rattle.clip.proofs.LentLaws.{first_line}
use Rattle.clip.proofs.FirstPassLaws.{start_here, start_later, start_past_all, tells_start, tells_none}
use Rattle.clip.proofs.scan.first_pass.Goals as goal

pub returns-then-comes_in : goal.returns-then-comes_in
returns-then-comes_in c =
    let a = c.args in
    let n = room_of a.lines.now in
    let z = start_here a.s (line_in a.lines.now 0) c.loop-i.before c.loop-i.i n c.marks_at-m.result c.loop-i-test.true (c.marks_at-m.ensures ∙ ap (marks_of c.args.s) (first_line c.args.lines.now c.loop-i.i)) (sym c.comes_in.ensures ∙ c.if-comes_in.true) in
    let j = sym c.loop-i.invariant ∙ rw z (add-zero _) in
    let k = ap (λ (m : Marks). m.end_kept) (c.marks_at-last.ensures ∙ ap (marks_of a.s) (first_line a.lines.now (n - 1))) in
    ap (StartsAt c.loop-i.i) k ∙ tells_start _ _ _ c.loop-i.i j (rw length_run c.loop-i-test.true)

pub loop-i-preserved : goal.loop-i-preserved
loop-i-preserved c = sym (start_later c.args.s (line_in c.args.lines.now 0) c.loop-i.before c.loop-i.i (room_of c.args.lines.now) c.marks_at-m.result c.loop-i-test.true (c.marks_at-m.ensures ∙ ap (marks_of c.args.s) (first_line c.args.lines.now c.loop-i.i)) (sym c.comes_in.ensures ∙ c.if-comes_in.false)) ∙ c.loop-i.invariant

-- no line comes in
pub returns-then-kept : goal.returns-then-kept
returns-then-kept c =
    let a = c.args in
    let n = room_of a.lines.now in
    let g = line_in a.lines.now 0 in
    let z = start_past_all a.s g c.loop-i.before c.loop-i.i n c.loop-i-test.false in
    let k = ap (λ (m : Marks). m.end_kept) (sym (c.marks_at-last.ensures ∙ ap (marks_of a.s) (first_line a.lines.now (n - 1)))) ∙ c.if-kept.true in
    ap (λ (k : Bool). cond k AllKept NoneKept) (sym k) ∙ tells_none _ _ _ (omega (arith, z, c.loop-i.invariant, length_run g 0 n))

pub returns-else-kept : goal.returns-else-kept
returns-else-kept c =
    let a = c.args in
    let n = room_of a.lines.now in
    let g = line_in a.lines.now 0 in
    let z = start_past_all a.s g c.loop-i.before c.loop-i.i n c.loop-i-test.false in
    let k = ap (λ (m : Marks). m.end_kept) (sym (c.marks_at-last.ensures ∙ ap (marks_of a.s) (first_line a.lines.now (n - 1)))) ∙ c.if-kept.false in
    ap (λ (k : Bool). cond k AllKept NoneKept) (sym k) ∙ tells_none _ _ _ (omega (arith, z, c.loop-i.invariant, length_run g 0 n))
