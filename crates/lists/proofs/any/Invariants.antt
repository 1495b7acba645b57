-- `lists::any` meets its contract: what was found so far and the members that are left give the answer. Assumes nothing.
use Rattle.std.proofs.Common.{◌≡◌, Bool, ◌||◌, drop}
use Rattle.lists.specs.Lists.{fold, any}
use Rattle.lists.proofs.any.Given as goal

abbrev pub invariant-loop-x : goal.invariant-loop-x
invariant-loop-x g l =
    (p : g.row.T.Denot → Bool) → ((x : g.row.T.Denot) (b : Bool) → g.F.Fn.post l.passes (x, tt) b → b ≡ p x)
    → fold (λ b x. b || p x) l.found (drop l.x-index l.s) ≡ any p l.s
