-- `xy::placed::Placed::vertex_count` meets its contract. Assumes nothing.
use mathlib.Core.Path.{sym}
use Rattle.xy.proofs.NumberLaws.{count_from}
use Rattle.xy.proofs.placed.PlacedVertices.vertex_count.Goals as goal

pub returns : goal.returns
returns c =
    let p = c.args.self in
    sym (count_from p.s.now p.from p.n p.in_reach.within)
