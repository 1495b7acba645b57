-- `many::answered` meets its contract. Assumes nothing.
use Rattle.std.proofs.Common.{Ok}
use mathlib.Core.Path.{sym, ap, ◌∙◌}
use borrow.Author.Tests.{eq-eqb, ne_eqb}
use Rattle.lists.specs.Lists.{at_front}
use Rattle.index.specs.Buffer.{IndexBuffer}
use Rattle.set.proofs.SetLaws.{outlines_length}
use Rattle.many.specs.Answers.{ManyLent, answer_lists, written_of, with_answers, many_worked}
use Rattle.many.specs.Work.{many_left}
use Rattle.many.proofs.answered.Goals as goal

pub returns-then-set-eq0 : goal.returns-then-set-eq0
unfolding many_worked written_of with_answers at_front
returns-then-set-eq0 c =
    let i = c in
    let a = i.args in
    let n = outlines_length a.set.now.vertices.now a.set.now.counts.now in
    rw (eq-eqb _ 0 (n ∙ i.if-set-eq0.true)) (ap (λ (B : IndexBuffer). record { answer = Ok 0; lent = record { buffer = B; lists = answer_lists a.near.now a.distances.now } }) c.clear.ensures)

pub returns : goal.returns
unfolding many_worked many_left written_of
returns c =
    let i = c in
    let a = i.args in
    let n = outlines_length a.set.now.vertices.now a.set.now.counts.now in
    rw (ne_eqb _ 0 (λ z. i.if-set-eq0.false (sym n ∙ z))) (ap (λ (L : ManyLent). record { answer = Ok 1; lent = L }) c.answer.ensures)
