-- `sorts::sorted` meets its contract. Assumes nothing.
use Rattle.std.proofs.lemmas.Fn.{always_returns_same}
use Rattle.sorts.specs.Keys.{precedes, key_in}
use Rattle.sorts.proofs.Order.{goes_total, goes_trans, goes_antisym}
use Rattle.sorts.proofs.StdSorts.{strict, sorted_by}
use borrow.Author.Rules.{rules}
use Rattle.sorts.proofs.sorted.Goals as goal

pub returns : goal.returns
returns c =
    let key = key_in c.args.keys.now in
    let le = precedes key in
    let e = c.sort_unstable_by.ensures in
    sorted_by le (goes_total key) (goes_trans key) (goes_antisym key) c.args.s.now _ e.permutation
    (e.sorted _ (strict le (goes_total key) (goes_trans key)) (always_returns_same _ _ _ (λ a r g h. search rules)))
