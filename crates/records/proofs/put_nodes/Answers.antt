-- `records::put_nodes` meets its contract: the nodes so far stand at the front. Assumes nothing.
use Rattle.lists.proofs.FrontLaws.{front_more_run, front_run}
use Rattle.lists.specs.Lists.{run}
use mathlib.Core.Path.{refl, ◌∙◌}
use native.Mathlib.Nat.{le_antisymm}
use native.Mathlib.Omega.{arith}
use Rattle.records.proofs.put_nodes.Goals as goal

pub loop-i-init : goal.loop-i-init
unfolding run
loop-i-init c = refl

pub loop-i-preserved : goal.loop-i-preserved
loop-i-preserved c = front_more_run _ c.args.nodes.now _ _ _ (omega arith) c.node_in.ensures c.loop-i.invariant

pub returns : goal.returns
returns c =
    (rw (le_antisymm (omega arith) c.loop-i-test.false) at c.loop-i.invariant) ∙ front_run _ _ _
