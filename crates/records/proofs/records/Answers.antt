-- `records::records` meets its contract. Assumes nothing.
use Rattle.accept.proofs.TestLaws.{handed_on}
use Rattle.index.proofs.GrowLaws.{boxes_passed}
use Rattle.index.proofs.IndexCovers.{nodes_511}
use Rattle.records.proofs.RecordLaws.{nodes_passed, records_passed, records_refused}
use borrow.Author.Rules.{rules}
use Rattle.records.proofs.records.Goals as goal

pub record-count-requires : goal.record-count-requires
record-count-requires c = nodes_passed _ _ _ c.nodes_tested.ensures c.in_ok-nodes_tested.was

pub overflow_cast-count : goal.overflow_cast-count
overflow_cast-count c =
    let p = nodes_passed _ _ _ c.nodes_tested.ensures c.in_ok-nodes_tested.was in
    let k = nodes_511 _ p.0 in
    let e = c.record-count.ensures.0 in
    search rules

pub overflow_cast-result : goal.overflow_cast-result
overflow_cast-result c =
    let p = nodes_passed _ _ _ c.nodes_tested.ensures c.in_ok-nodes_tested.was in
    let k = (boxes_passed _ p.0).0 in
    search rules

pub returns : goal.returns
returns c = records_passed _ _ _ c.nodes_tested.ensures c.in_ok-nodes_tested.was c.record-count.ensures

pub returns-in_err-nodes_tested : goal.returns-in_err-nodes_tested
returns-in_err-nodes_tested c =
    rw (handed_on c.from_residual.ensures.1) (records_refused _ _ _ c.nodes_tested.ensures c.in_err-nodes_tested.was)
