-- `nodes::build` ends: each half has fewer items.
use Rattle.std.proofs.Common.{length}
use Rattle.nodes.proofs.+build.Given as goal

abbrev pub decreases-build : goal.decreases-build
decreases-build l = length l.list.now
