-- `vk_index_nodes` meets its contract. Assumes nothing.
use Rattle.records.proofs.RecordLaws.{records_written}
use Rattle.viskunor.proofs.indexes.vk_index_nodes.Goals as goal

pub returns : goal.returns
returns c = rw c.fields-number.ensures (records_written _ _ _ c.records.ensures)
