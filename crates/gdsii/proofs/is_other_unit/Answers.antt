-- `gdsii::is_other_unit` meets its contract: only a UNITS is looked at. Assumes nothing.
use borrow.Author.Tests.{eq-eqb, ne_eqb}
use Rattle.gdsii.proofs.is_other_unit.Goals as goal

pub other_unit-requires : goal.other_unit-requires
other_unit-requires c = c.requires (eq-eqb _ _ c.if-t-eq773.true)

pub returns-then-t-eq773 : goal.returns-then-t-eq773
returns-then-t-eq773 c = rw (eq-eqb _ _ c.if-t-eq773.true) c.other_unit.ensures

pub returns : goal.returns
returns c = rw (ne_eqb _ _ c.if-t-eq773.false)
