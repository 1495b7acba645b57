-- `index::new` meets its contract. Assumes nothing.
use Rattle.index.proofs.GrowLaws.{grown_nodes, index_nodes, accepted_sizes, built, build_refused}
use Rattle.accept.proofs.TestLaws.{handed_on}
use Rattle.index.specs.Buffer.{buffer}
use Rattle.index.specs.Answers.{build_tested}
use native.Mathlib.Omega.{arith}
use borrow.Author.Rules.{rules}
use Rattle.index.proofs.new.Goals as goal

pub grow_or_leaf-nodes-requires : goal.grow_or_leaf-nodes-requires
unfolding build_tested
grow_or_leaf-nodes-requires c =
    let a = c.args in
    accepted_sizes a.boxes.now (buffer a.corners.now a.links.now a.items.now)
    c.build_tested.ensures c.in_ok-build_tested.was

pub overflow_cast-result : goal.overflow_cast-result
unfolding build_tested
overflow_cast-result c =
    let a = c.args in
    let A = accepted_sizes a.boxes.now (buffer a.corners.now a.links.now a.items.now)
    c.build_tested.ensures c.in_ok-build_tested.was in
    let s = A.size in
    let k = index_nodes a.boxes.now (omega arith) in
    let n = grown_nodes _ _ c.grow_or_leaf-nodes.ensures in
    search rules

pub overflow_cast-result-2 : goal.overflow_cast-result-2
unfolding build_tested
overflow_cast-result-2 c =
    let a = c.args in
    let A = accepted_sizes a.boxes.now (buffer a.corners.now a.links.now a.items.now)
    c.build_tested.ensures c.in_ok-build_tested.was in
    let s = A.size in
    search rules

pub returns : goal.returns
unfolding build_tested
returns c =
    let a = c.args in
    built a.boxes.now (buffer a.corners.now a.links.now a.items.now)
    c.build_tested.ensures c.in_ok-build_tested.was
    c.grow_or_leaf-nodes.ensures

pub returns-in_err-build_tested : goal.returns-in_err-build_tested
unfolding build_tested
returns-in_err-build_tested c =
    let a = c.args in
    rw (handed_on c.from_residual.ensures.1) (build_refused a.boxes.now (buffer a.corners.now a.links.now a.items.now) c.build_tested.ensures c.in_err-build_tested.was)
