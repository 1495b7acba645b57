-- `fill::within::vertex_within` meets its contract. Assumes nothing.
use Rattle.fill.proofs.WithinLaws.{compared_inside}
use Rattle.fill.proofs.within.vertex_within.Goals as goal

pub returns : goal.returns
returns c =
    rw (← c.vertex_at-p.ensures) (compared_inside c.vertex_at-p.result c.args.c)
