-- `fill::within::rows_within` meets its contract: the rows so far are in the cell. Assumes nothing.
use Rattle.std.proofs.Common.{◌*◌, arith}
use Rattle.boundary.specs.Boxes.{Inside}
use Rattle.boundary.specs.Outline.{vertex_at}
use Rattle.fill.proofs.WithinLaws.{eight_more}
use Rattle.fill.proofs.within.rows_within.Goals as goal

pub loop-row-preserved : goal.loop-row-preserved
loop-row-preserved c =
    let l = c.loop-row in
    let a = c.args in
    λ k h. eight_more (λ j. Inside (vertex_at a.v.now j) a.c) (8 * l.row) l.invariant (c.row_within.ensures c.if-not-row_within.false) k (omega arith)
