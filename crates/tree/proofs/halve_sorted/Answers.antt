-- `tree::halve_sorted` meets its contract. Assumes nothing.
use Rattle.std.proofs.Common.{arith}
use Rattle.sorts.specs.Keys.{precedes, key_in}
use Rattle.sorts.proofs.PartLaws.{halves_ascend}
use Rattle.sorts.proofs.StdSorts.{ascended_by}
use Rattle.tree.proofs.halve_sorted.Goals as goal

pub returns : goal.returns
returns c =
    let a = c.args in
    let k = c.sorted.auto.s in
    let p = c.requires in
    let first = c.sort_unstable.ensures in
    let rest = c.sort_unstable-2.ensures in
    halves_ascend (precedes (key_in a.keys.now)) a.m a.list.now c.sorted.new.s c.sort_unstable.new.self c.sort_unstable-2.new.self c.sorted.ensures (omega arith) c.sort_unstable.auto.self
    (ascended_by _ _ first.permutation first.sorted) (ascended_by _ _ rest.permutation rest.sorted)
