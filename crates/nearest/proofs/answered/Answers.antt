-- `nearest::answered` meets its contract. Assumes nothing.
use Rattle.std.proofs.Common.{None, Some}
use mathlib.Core.Path.{sym, ap, ◌∙◌}
use borrow.Author.Tests.{eq-eqb, ne_eqb}
use Rattle.accept.specs.Answers.{Outcome, in_fields}
use Rattle.index.specs.Buffer.{IndexBuffer}
use Rattle.search.specs.declared.Best.{Best}
use Rattle.set.proofs.SetLaws.{outlines_length}
use Rattle.nearest.specs.Nearest.{nearest_in}
use Rattle.nearest.proofs.answered.Goals as goal

pub returns-then-set-eq0 : goal.returns-then-set-eq0
unfolding nearest_in
returns-then-set-eq0 c =
    let i = c in
    let s = i in
    let a = s.args in
    let n = outlines_length a.set.now.vertices.now a.set.now.counts.now in
    rw (eq-eqb _ 0 (n ∙ i.if-set-eq0.true)) (ap (λ (B : IndexBuffer). record { answer = None; lent = B }) c.clear.ensures)

pub returns : goal.returns
unfolding nearest_in
returns c =
    let i = c in
    let s = i in
    let a = s.args in
    let n = outlines_length a.set.now.vertices.now a.set.now.counts.now in
    rw (ne_eqb _ 0 (λ z. i.if-set-eq0.false (sym n ∙ z))) (ap (λ (o : Outcome Best IndexBuffer). in_fields (λ (b : Best). Some b) o) c.found.ensures)
