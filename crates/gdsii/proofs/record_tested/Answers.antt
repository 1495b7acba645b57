-- `gdsii::record_tested` meets its contract. Assumes nothing.
use mathlib.Core.Path.{sym, ap₂, ◌∙◌}
use mathlib.Core.Bool.{◌||◌}
use Rattle.gdsii.proofs.PlaceLaws.{whole_at, cut_refused, order_refused, order_passed, unit_room}
use Rattle.gdsii.proofs.record_tested.Goals as goal

pub returns-then-size-s : goal.returns-then-size-s
returns-then-size-s c =
    sym (cut_refused c.args.s.now c.args.at c.args.t c.args.size c.args.then c.requires c.if-size-s.true)

pub overflow_sub-size : goal.overflow_sub-size
overflow_sub-size c =
    (whole_at c.args.s.now c.args.at c.args.size c.if-size-s.false).0

pub returns-then-is_astray-misfits : goal.returns-then-is_astray-misfits
returns-then-is_astray-misfits c =
    let e = sym (ap₂ ◌||◌ c.is_astray.ensures c.misfits.ensures) ∙ c.if-is_astray-misfits.true in
    sym (order_refused c.args.s.now c.args.at c.args.t c.args.size c.args.then c.requires c.if-size-s.false e)

pub is_other_unit-other-requires : goal.is_other_unit-other-requires
is_other_unit-other-requires c =
    let e = sym (ap₂ ◌||◌ c.is_astray.ensures c.misfits.ensures) ∙ c.if-is_astray-misfits.false in
    unit_room c.args.s.now c.args.at c.args.t c.args.size c.args.then c.requires c.if-size-s.false e

pub returns : goal.returns
returns c =
    let e = sym (ap₂ ◌||◌ c.is_astray.ensures c.misfits.ensures) ∙ c.if-is_astray-misfits.false in
    rw (c.refuse_when.ensures, c.is_other_unit-other.ensures) (sym (order_passed c.args.s.now c.args.at c.args.t c.args.size c.args.then c.requires c.if-size-s.false e))
