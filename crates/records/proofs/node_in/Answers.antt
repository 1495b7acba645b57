-- `records::node_in` meets its contract. Assumes nothing.
use Rattle.records.specs.Records.{node_in}
use Rattle.records.proofs.node_in.Goals as goal

pub returns : goal.returns
unfolding node_in
returns c = rw (c.count_at.ensures, c.first_at.ensures, c.box_at-b.ensures)
