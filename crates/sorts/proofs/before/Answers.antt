-- `sorts::before` meets its contract: the quick tests by `<` decide where a key is below the other. Assumes nothing.
use Rattle.sorts.proofs.Order.{goes_less, goes_more}
use Rattle.sorts.proofs.before.Goals as goal

pub returns-then-x-y : goal.returns-then-x-y
returns-then-x-y c =
    let x = c.key-x.ensures in
    let y = c.key-y.ensures in
    goes_less _ _ _ _ (rw (x, y) at c.if-x-y.true)

pub returns-then-y-x : goal.returns-then-y-x
returns-then-y-x c =
    let x = c.key-x.ensures in
    let y = c.key-y.ensures in
    goes_more _ _ _ _ (rw (x, y) at c.if-y-x.true)
