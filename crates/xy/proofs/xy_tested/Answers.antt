-- `xy::xy_tested` meets its contract. Assumes nothing.
use Rattle.std.proofs.Common.{Ok, Err}
use mathlib.Core.Path.{sym, ap, ◌∙◌}
use Rattle.accept.specs.Refusals.{Test, given}
use Rattle.accept.proofs.TestLaws.{given_failed}
use Rattle.xy.specs.Outlines.{steps_from, makings_of}
use Rattle.xy.proofs.NumberLaws.{far_from}
use Rattle.xy.proofs.MakingLaws.{tested_far, tested_rest}
use Rattle.xy.proofs.xy_tested.Goals as goal

pub returns-then-any_far : goal.returns-then-any_far
returns-then-any_far c =
    let a = c.args in
    let f = sym (far_from a.s.now a.from a.n) ∙ sym c.any_far.ensures ∙ c.if-any_far.true in
    sym (given_failed (tested_far _ f) _ Err)

pub invariant_of-making_tested : goal.invariant_of-making_tested
invariant_of-making_tested c =
    let a = c.args in
    record { in_reach = record { within = c.requires; near = sym (far_from a.s.now a.from a.n) ∙ sym c.any_far.ensures ∙ c.if-any_far.false } }

pub returns : goal.returns
returns c =
    let a = c.args in
    let f = sym (far_from a.s.now a.from a.n) ∙ sym c.any_far.ensures ∙ c.if-any_far.false in
    c.making_tested.ensures ∙ ap (λ (t : Test). given t (Ok (makings_of (steps_from a.s.now a.from a.n))) Err) (sym (tested_rest _ f))
