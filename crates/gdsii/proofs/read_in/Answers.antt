-- `gdsii::read_in` meets its contract. Assumes nothing.
use Rattle.accept.proofs.TestLaws.{handed_on}
use mathlib.Core.Path.{sym, ◌∙◌}
use Rattle.gdsii.specs.Answers.{set_lent}
use Rattle.gdsii.proofs.OutcomeLaws.{call_refused, measured_found, call_short, has_room, call_found}
use Rattle.gdsii.proofs.read_in.Goals as goal

pub returns-then-short-counts : goal.returns-then-short-counts
returns-then-short-counts c =
    call_short c.args.s.now (set_lent c.args.vertices.now c.args.counts.now) _ (measured_found _ _ (sym c.in_ok-size.was ∙ c.measure.ensures.0)) c.if-short-counts.true

pub write-requires : goal.write-requires
write-requires c =
    has_room c.args.s.now (set_lent c.args.vertices.now c.args.counts.now) _ (measured_found _ _ (sym c.in_ok-size.was ∙ c.measure.ensures.0)) c.if-short-counts.false c.measure.ensures.1

pub returns : goal.returns
returns c =
    call_found c.args.s.now (set_lent c.args.vertices.now c.args.counts.now) _ (measured_found _ _ (sym c.in_ok-size.was ∙ c.measure.ensures.0)) c.if-short-counts.false c.write.ensures

pub returns-in_err-size : goal.returns-in_err-size
returns-in_err-size c =
    rw (handed_on c.from_residual.ensures.1)
    (call_refused c.args.s.now (set_lent c.args.vertices.now c.args.counts.now) (sym c.in_err-size.was ∙ c.measure.ensures.0))
