-- `number::root::bisect` meets its contract: the root stays between the two ends, and in the end they are neighbours. Assumes nothing.
use Rattle.std.proofs.Common.{◌≡◌, ℕ, ◌+◌, ◌*◌, ap, ◌∙◌, arith}
use Rattle.number.proofs.root.bisect.Goals as goal

pub returns : goal.returns
returns c =
    let lo = c.loop-hi.lo in
    let hi = c.loop-hi.hi in
    let e : hi ≡ lo + 1 = omega arith in
    let f : hi * hi ≡ lo * lo + 2 * lo + 1 = ap (λ (x : ℕ). x * x) e ∙ omega arith in
    record { low = c.loop-hi.invariant.2; high = omega arith }
