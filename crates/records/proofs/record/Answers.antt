-- `records::record` meets its contract. Assumes nothing.
use Rattle.index.proofs.GrowLaws.{boxes_passed, accepted_of, index_nodes, grown_nodes, short_none}
use Rattle.index.specs.Buffer.{buffer}
use Rattle.records.proofs.RecordLaws.{recorded_grown}
use Prim.Native.Nat.{◌≤◌}
use Rattle.tree.specs.Tree.{index_of}
use native.Mathlib.Omega.{arith}
use Rattle.records.proofs.record.Goals as goal

pub grow-count-requires : goal.grow-count-requires
grow-count-requires c = accepted_of _ _ _ _ (short_none 2044 1022 _ (omega arith) (omega arith) c.requires.2) c.requires.0

pub put_nodes-requires : goal.put_nodes-requires
put_nodes-requires c =
    let s = (boxes_passed _ c.requires.0).0 in
    let n = grown_nodes (index_of c.args.boxes.now) _ c.grow-count.ensures in
    let few : c.grow-count.result ≤ 511 = rw n (index_nodes c.args.boxes.now (omega arith)) in
    (few, omega (arith, few, c.requires.1))

pub returns : goal.returns
returns c = recorded_grown _ _ _ (buffer _ _ _) c.grow-count.ensures c.put_nodes.ensures
