-- `sorts::parted` meets its contract. Assumes nothing.
use mathlib.Core.Path.{ap₂}
use mathlib.Core.List.{List}
use Prim.Native.Nat.{ℕ}
use Rattle.sorts.specs.Sort.{parted_by}
use Rattle.sorts.proofs.PartLaws.{parted_is}
use Rattle.sorts.proofs.parted.Goals as goal

pub returns : goal.returns
unfolding parted_by
returns c =
    let q = parted_is _ _ _ _ _ _ _ c.dealt-a.ensures c.requires c.copied.ensures in
    ap₂ (λ (k : ℕ) (l : List ℕ). record { count = k; list = l }) q.1 q.0
