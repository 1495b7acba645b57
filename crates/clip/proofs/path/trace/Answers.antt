-- `clip::path::trace` meets its contract. Assumes nothing.
use Rattle.std.proofs.Common.{◌∙◌}
use Rattle.clip.specs.Passes.{nothing, traced}
use Rattle.clip.proofs.LentLaws.{starts}
use Rattle.clip.proofs.path.trace.Goals as goal

pub returns : goal.returns
unfolding traced
returns c =
    let f = rw c.run-b.auto.out at c.close.ensures in
    (f.0 ∙ c.run-b.ensures.1, f.1 _ (c.run-b.ensures.2 nothing (starts c.empty.ensures)))
