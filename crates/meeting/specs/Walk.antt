-- What a walk of an index buffer lists. Definitions only.
use Rattle.std.specs.Prelude.{cond, List, [], ◌++◌, ℕ, zero, suc, ◌+◌, min, eqb, ltb, length}
use Rattle.std.proofs.lemmas.List.Edits.{sets}
use Rattle.boundary.specs.declared.Bounds.{Bounds}
use Rattle.lists.specs.Lists.{run}
use Rattle.accept.specs.Answers.{Outcome}
use Rattle.boxes.specs.BoxLists.{box_at}
use Rattle.nodes.specs.Layout.{first_at, count_at}
use Rattle.index.specs.Buffer.{IndexBuffer, node_box, leaf_items}
use Rattle.meeting.specs.Meeting.{apart}

-- what the walk lists below node n, d levels at most
unfoldable pub hits : ℕ → IndexBuffer → Bounds → ℕ → List ℕ
unfolding apart run box_at
hits zero B c n = []
hits (suc d) B c n =
    let l = hits d B c (first_at B.links n) in
    let r = hits d B c (first_at B.links n + 1) in
    cond (apart (node_box B n) c) [] (cond (ltb 0 (count_at B.links n)) (leaf_items B n) (l ++ r))

-- what it lists from the root on, where the boxes are n numbers: nothing where there are none
unfoldable pub found : ℕ → ℕ → IndexBuffer → Bounds → List ℕ
unfolding hits
found d n B c = cond (eqb n 0) [] (hits d B c 0)

-- xs put into l from the place k on, as far as there is room: the place after them, and the list
unfoldable pub put_from : List ℕ → ℕ → List ℕ → Outcome ℕ (List ℕ)
put_from l k xs = record { answer = min (length l) (k + length xs); lent = sets l k xs }
