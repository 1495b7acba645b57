-- `set::refusals::rank_in` meets its contract. Assumes nothing.
use Rattle.accept.proofs.VerdictLaws.{test_of_verdict}
use Rattle.set.proofs.OnePassLaws.{rank_first}
use Rattle.set.proofs.refusals.rank_in.Goals as goal

pub returns : goal.returns
returns c =
    let o = c.outline_from.ensures in
    rw (c.rank_of.ensures, c.test_of.ensures, c.sign_tested.ensures _ _ c.values_tested.ensures, test_of_verdict, o) (rank_first _)
