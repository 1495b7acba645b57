-- The node records of an index buffer. Assumes nothing.
use Rattle.std.proofs.Common.{Err, Ok}
use mathlib.Core.Path.{◌≡◌, sym, ap, ◌∙◌}
use mathlib.Core.List.{List, [], ◌++◌, flat_map}
use Prim.Native.Nat.{ℕ, ◌+◌, ◌≤◌, ◌<◌}
use native.Mathlib.Omega.{arith}
use lib.Dec.{ltb}
use borrow.Author.Tests.{ltb-false}
use lib.ListN.{length, get_or, drop}
use lib.Seq.{ext_get_or}
use lib.Ieee.{Float}
use Rattle.lists.proofs.RunLaws.{length_run, run_at}
use Rattle.lists.specs.Lists.{run, at_front}
use Rattle.accept.specs.declared.Refusal.{Refusal}
use Rattle.accept.specs.declared.Refusal.TheVariants.{ShortBuffer}
use Rattle.accept.specs.Answers.{in_fields}
use Rattle.accept.specs.Refusals.{Answer, Test, all_passed, ◌refusing◌when◌}
use Rattle.accept.proofs.TestLaws.{refusing_passed}
use Rattle.nodes.specs.declared.Node.{Node}
use Rattle.boxes.specs.BoxLists.{box_count}
use Rattle.tree.specs.Tree.{Tree, index_of, items_of}
use Rattle.nodes.specs.Layout.{node_of, nodes_of, corners_of, links_of}
use Rattle.index.specs.Buffer.{IndexBuffer, holding, grown}
use Rattle.index.specs.Answers.{boxes_tested, build_fields_of}
use Rattle.index.specs.declared.TreeSize.{TreeSize}
use Rattle.index.proofs.GrowLaws.{length_index_items, grown_nodes, grown_lent}
use Rattle.index.proofs.ReadLaws.{NodeIs, node_is}
use Rattle.records.specs.Records.{node_in, nodes_tested, NodesLent, recorded, records_outcome, nodes_call}

-- ---- the nodes of an index buffer, written one by one
read_node : (B : List Float) (K : List ℕ) (i : ℕ) (x : Node) → NodeIs B K [] i x → node_in B K i ≡ x
unfolding node_in
read_node B K i x s = rw (s.box, s.first, s.count)

-- an index buffer's nodes are the tree's
stored_nodes : (t : Tree) (C : List Float) (L : List ℕ)
    → run (node_in (at_front (flat_map corners_of (nodes_of t)) C) (at_front (flat_map links_of (nodes_of t)) L)) 0 (length (nodes_of t)) ≡ nodes_of t
unfolding at_front
stored_nodes t C L =
    let N = nodes_of t in
    let B = flat_map corners_of N ++ drop (length (flat_map corners_of N)) C in
    let K = flat_map links_of N ++ drop (length (flat_map links_of N)) L in
    let e = node_of t 0 1 in
    let n = length_run (node_in B K) 0 (length N) in
    ext_get_or e (run (node_in B K) 0 (length N)) N n
    (λ i h. let l : i < length N = rw n at h in let z : 0 + i ≡ i = omega arith in run_at (node_in B K) 0 (length N) i e l ∙ ap (node_in B K) z ∙ read_node B K i (get_or N i e) (node_is N (drop (length (flat_map corners_of N)) C) (drop (length (flat_map links_of N)) L) e [] i l))

-- ---- a tree that is built, as records at the front of N
pub recorded_grown : (t : Tree) (N : List Node) (B D : IndexBuffer) {n : ℕ} {xs : List Node} → record { answer = n; lent = D } ≡ grown t B
    → xs ≡ at_front (run (node_in D.corners D.links) 0 n) N
    → (n ≡ length (nodes_of t)) × (record { nodes = xs; items = D.items } ≡ recorded t N B.items)
unfolding holding
recorded_grown t N B D {n} {xs} g e =
    let nodes : n ≡ length (nodes_of t) = grown_nodes t B g in
    let held = grown_lent t B g in
    let corners : D.corners ≡ at_front (flat_map corners_of (nodes_of t)) B.corners = ap (λ (b : IndexBuffer). b.corners) held in
    let links : D.links ≡ at_front (flat_map links_of (nodes_of t)) B.links = ap (λ (b : IndexBuffer). b.links) held in
    let items : D.items ≡ at_front (items_of t) B.items = ap (λ (b : IndexBuffer). b.items) held in
    let all : run (node_in D.corners D.links) 0 n ≡ nodes_of t = rw (nodes, corners, links) (stored_nodes t B.corners B.links) in
    let list : xs ≡ at_front (nodes_of t) N = e ∙ ap (λ (M : List Node). at_front M N) all in
    (nodes, rw (list, items))

-- ---- what passes the tests of building as records
module _ (v : List Float) (n i : ℕ) where
  pub nodes_passed : {t : Test} → t ≡ nodes_tested v n i → t ≡ all_passed → (boxes_tested v ≡ all_passed) × (511 ≤ n) × (1024 ≤ i)
  unfolding nodes_tested
  nodes_passed tested e =
      let items = refusing_passed (boxes_tested v refusing ShortBuffer when ltb n 511) ShortBuffer (ltb i 1024) (sym tested ∙ e) in
      let nodes = refusing_passed (boxes_tested v) ShortBuffer (ltb n 511) items.0 in
      (nodes.0, ltb-false n 511 nodes.1, ltb-false i 1024 items.1)

-- ---- all that the call leaves
module _ (v : List Float) (N : List Node) (I : List ℕ) where
  pub records_passed : {t : Test} {k : ℕ} {M : NodesLent} → t ≡ nodes_tested v (length N) (length I) → t ≡ all_passed
      → (k ≡ length (nodes_of (index_of v))) × (M ≡ recorded (index_of v) N I)
      → record { answer = Ok (record { nodes = k; items = box_count v }); lent = M } ≡ records_outcome v N I
  unfolding records_outcome
  records_passed tested e s = rw (← tested, e, s.0, s.1, length_index_items v)

  pub records_refused : {t : Test} {r : Refusal} → t ≡ nodes_tested v (length N) (length I) → t ≡ Err r
      → record { answer = Err r; lent = record { nodes = N; items = I } } ≡ records_outcome v N I
  unfolding records_outcome
  records_refused tested e = rw (← tested, e)

  -- and once its answer is put into the fields
  pub records_written : {r : Answer TreeSize} {N' : List Node} {I' : List ℕ}
      → record { answer = r; lent = record { nodes = N'; items = I' } } ≡ records_outcome v N I
      → record { answer = build_fields_of r; lent = record { nodes = N'; items = I' } } ≡ nodes_call v N I
  unfolding nodes_call
  records_written e = ap (in_fields build_fields_of) e
