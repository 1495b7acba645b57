-- `accept::refusals::values_tested` meets its contract: where no number is outside the field, every one is finite. Assumes nothing.
use borrow.Author.Rules.{rules}
use mathlib.Core.Path.{◌≡◌, refl, sym, ◌∙◌}
use mathlib.Core.Bool.{true, false, not, true≢false}
use lib.Ieee.{Float, nan, inf, fin, le, neg}
use lib.Ieee.Scale.{finite}
use Rattle.boundary.specs.Boxes.{is_in_field}
use Rattle.lists.proofs.FoldLaws.{any_none}
use Rattle.accept.specs.Refusals.{given, values_tested}
use Rattle.accept.specs.Verdicts.{edges_verdict}
use Rattle.accept.proofs.refusals.values_tested.Goals as goal

field-is-finite : (x : Float) → not (is_in_field x) ≡ false → not (finite x) ≡ false
unfolding le neg
field-is-finite nan e = absurd (true≢false e)
field-is-finite (inf true) e = absurd (true≢false e)
field-is-finite (inf false) e = absurd (true≢false e)
field-is-finite (fin s m e) h = refl

pub returns-then-any-2 : goal.returns-then-any-2
unfolding values_tested given
returns-then-any-2 c =
    let found = c.any-then-any.ensures (λ x. not (finite x)) (λ x b e. search rules) in
    rw (← found, c.if-any-2.true)

pub returns-then-any : goal.returns-then-any
unfolding values_tested given
returns-then-any c =
    let unfit = c.any-then-any.ensures (λ x. not (finite x)) (λ x b e. search rules) in
    let out = c.any.ensures (λ x. not (is_in_field x)) (λ x b e. search rules) in
    rw (← unfit, c.if-any-2.false, ← out, c.if-any.true)

pub returns : goal.returns
unfolding values_tested edges_verdict given
returns c =
    let out = c.any.ensures (λ x. not (is_in_field x)) (λ x b e. search rules) in
    let e = sym out ∙ c.if-any.false in
    rw (any_none _ _ field-is-finite c.args.v.now e, e, c.edges_tested.ensures)
