-- `viskunor::indexes::vk_index_build` meets its contract. Assumes nothing.
use Rattle.index.proofs.GrowLaws.{build_call_lem}
use Rattle.viskunor.proofs.indexes.vk_index_build.Goals as goal

pub returns : goal.returns
returns c = build_call_lem _ _ c.new.ensures c.fields-number.ensures
