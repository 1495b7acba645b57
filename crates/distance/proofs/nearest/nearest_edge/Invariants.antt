-- `distance::nearest::nearest_edge` meets its contract: the nearest so far and the edges that are left give the nearest of all. Assumes nothing.
use Rattle.distance.proofs.SearchLaws.{SearchedEdges}
use Rattle.distance.proofs.nearest.nearest_edge.Given as goal

abbrev pub invariant-loop-i : goal.invariant-loop-i
invariant-loop-i l = SearchedEdges l.v l.p l.i l.best
