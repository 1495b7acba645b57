-- `search::search_in` meets its contract: every outline is below a node that waits, or the best is at most it. Assumes nothing.
use lib.ListN.{length}
use Rattle.search.specs.Heap.{entry_at, total_weight}
use Rattle.index.specs.Buffer.{buffer}
use Rattle.set.specs.Set.{outlines_of}
use Rattle.search.specs.Least.{magnitude_at}
use Rattle.search.proofs.SearchLaws.{size_of, Searching}
use Rattle.search.proofs.SetSearch.{most}
use Rattle.search.proofs.search_in.Given as goal

abbrev pub invariant-loop-e : goal.invariant-loop-e
invariant-loop-e l =
    Searching (buffer l.index.corners.now l.index.links.now l.index.items.now) most l.p (magnitude_at (outlines_of l.view.set.vertices.now l.view.set.counts.now) l.p) (length (outlines_of l.view.set.vertices.now l.view.set.counts.now)) (entry_at l.waiting.nodes l.waiting.gaps) l.waiting.len l.kept

abbrev pub decreases-loop-e : goal.decreases-loop-e
decreases-loop-e l =
    total_weight (size_of (buffer l.index.corners.now l.index.links.now l.index.items.now) most l.p (magnitude_at (outlines_of l.view.set.vertices.now l.view.set.counts.now) l.p) (length (outlines_of l.view.set.vertices.now l.view.set.counts.now))) (entry_at l.waiting.nodes l.waiting.gaps) l.waiting.len
