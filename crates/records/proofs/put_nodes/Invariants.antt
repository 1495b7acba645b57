-- `records::put_nodes` meets its contract: the nodes so far stand at the front. Assumes nothing.
use Rattle.std.proofs.Common.{◌≡◌, ◌++◌, drop}
use Rattle.lists.specs.Lists.{run}
use Rattle.records.specs.Records.{node_in}
use Rattle.records.proofs.put_nodes.Given as goal

abbrev pub invariant-loop-i : goal.invariant-loop-i
invariant-loop-i l = l.nodes ≡ run (node_in l.view.corners.now l.view.links.now) 0 l.i ++ drop l.i l.initial.nodes
