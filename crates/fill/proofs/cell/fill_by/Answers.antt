-- `fill::cell::fill_by` meets its contract. Assumes nothing.
use mathlib.Core.Path.{refl}
use lib.ListN.{length}
use Rattle.fill.proofs.TestedLaws.{fill_passed, tested_some}
use Rattle.fill.proofs.OutlineWithin.{within_filled}
use Rattle.fill.proofs.ChordLaws.{cell_strip}
use Rattle.fill.proofs.cell.fill_by.Goals as goal

pub sum_own-requires : goal.sum_own-requires
sum_own-requires c = tested_some _ _ _ c.requires.0

pub returns-then-is_within : goal.returns-then-is_within
returns-then-is_within c =
    let a = c.args in
    (rw (within_filled a.v.now a.c (length a.w.now) c.requires.1 c.requires.2 c.requires.0 (c.is_within.ensures c.if-is_within.true), c.sum_own.ensures), refl, refl)

pub clipped-requires : goal.clipped-requires
clipped-requires c =
    let q = c.requires in
    ((fill_passed _ _ _ q.0).enough, cell_strip _ _ _ q.1 q.2 q.0)

pub shape_of-w : goal.shape_of-w
shape_of-w c = c.clipped.ensures.1

pub returns : goal.returns
returns c = c.clipped.ensures
