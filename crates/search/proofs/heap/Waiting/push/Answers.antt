-- `search::heap::Waiting::push` meets its contract: the entry is put behind the others, and rises. Assumes nothing.
use native.Mathlib.Omega.{arith}
use Rattle.search.proofs.HeapLaws.{push_rising, pushed}
use Rattle.search.proofs.heap.Waiting.push.Goals as goal

pub rise-requires : goal.rise-requires
rise-requires g c =
    let s = c.args.self.now in
    ((omega arith, omega arith), push_rising s.nodes s.gaps s.len c.args.entry (omega arith) (omega arith) s.heaped c.requires.1)

pub returns-clause-pushed : goal.returns-clause-pushed
returns-clause-pushed g c =
    let s = c.args.self.now in
    pushed s.nodes s.gaps s.len c.args.entry (omega arith) (omega arith) c.rise.ensures
