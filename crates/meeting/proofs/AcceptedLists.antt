-- WHAT A CALL THAT PASSES THE TESTS LISTS: what `meeting` and the Rust's walk do, no number twice, and every box that shares a point with the cell; and what two calls list, one for a cell inside the other's. Assumes nothing.
use Rattle.std.proofs.Common.{Ok}
use Rattle.accept.specs.Refusals.{Answer, all_passed}
use mathlib.Core.Path.{◌≡◌, refl, sym, ap, ◌∙◌}
use mathlib.Core.Bool.{Bool, true, false}
use mathlib.Core.List.{List}
use Prim.Native.Nat.{ℕ, ◌+◌, ◌*◌, ◌≤◌, ◌<◌}
use native.Mathlib.Omega.{arith}
use lib.Dec.{ltb}
use lib.ListN.{length, drop}
use lib.Seq.{take_at}
use lib.Ieee.{Float}
use borrow.Author.Tests.{ltb-true, ltb-false}
use Rattle.number.specs.Exact.{Doubles}
use Rattle.boundary.specs.declared.Bounds.{Bounds}
use Rattle.boundary.specs.Boxes.{DoubleBox, FieldBox, Around}
use Rattle.boundary.proofs.FieldLaws.{double_box_field}
use Rattle.lists.specs.Lists.{times, In, Sublist, at_front}
use Rattle.lists.proofs.SublistLaws.{sublist_in, sublist_times, sublist_length}
use Rattle.accept.specs.Answers.{Outcome}
use Rattle.accept.proofs.TestLaws.{given_passed}
use Rattle.boxes.specs.BoxLists.{box_count, box_at}
use Rattle.tree.specs.Tree.{index_of, items_of}
use Rattle.tree.proofs.TreeLaws.{items_once}
use Rattle.index.specs.Buffer.{IndexBuffer}
use Rattle.index.specs.Answers.{boxes_tested}
use Rattle.index.proofs.IndexCovers.{passed_fits, nested}
use Rattle.meeting.specs.Meeting.{SharedPoint, meeting_of, visited_of}
use Rattle.meeting.specs.Answers.{MeetingLent, meeting_tested, listing, meeting_outcome, meeting_call, listed_by}
use Rattle.meeting.proofs.ApartLaws.{shared_not_apart}
use Rattle.meeting.proofs.NestedCells.{meeting_sublist}
use Rattle.meeting.proofs.MeetingLaws.{meeting_items, visited_is, meeting_accepted}
use Rattle.meeting.proofs.MeetingLists.{meeting_lists}

-- the boxes of a list of `f64`s
boxes_double : (v : List Float) → Doubles v → (k : ℕ) → k < box_count v → DoubleBox (box_at v k)
unfolding box_at
boxes_double v held k l = record {
  min = record { x = held.each (4 * k) (omega arith); y = held.each (4 * k + 1) (omega arith) };
  max = record { x = held.each (4 * k + 2) (omega arith); y = held.each (4 * k + 3) (omega arith) };
}

module _ (v : List Float) (c : Bounds) (B : IndexBuffer) (S : List ℕ) (passed : meeting_tested v c B S ≡ all_passed) where
  boxes_pass : boxes_tested v ≡ all_passed
  boxes_pass = (meeting_accepted v c B S refl passed).1

  outcome_is : meeting_outcome v c B S ≡ record { answer = Ok (listing v c B S).answer; lent = (listing v c B S).lent }
  unfolding meeting_outcome
  outcome_is = given_passed passed _ _

  -- COUNTED: how many items there are
  pub counts_meeting : (meeting_outcome v c B S).answer ≡ Ok (length (meeting_of c (index_of v)))
  unfolding listing
  counts_meeting = ap (λ (o : Outcome (Answer ℕ) MeetingLent). o.answer) outcome_is

  -- AT EXIT the list begins with them, and its places past them are as they were
  pub fronts_meeting : (meeting_outcome v c B S).lent.list ≡ at_front (meeting_of c (index_of v)) S
  unfolding listing
  fronts_meeting = ap (λ (o : Outcome (Answer ℕ) MeetingLent). o.lent.list) outcome_is

  -- LISTED: they are the numbers that the call lists
  pub lists_meeting : listed_by v c B S ≡ meeting_of c (index_of v)
  unfolding listed_by at_front
  lists_meeting = let M = meeting_of c (index_of v) in rw (counts_meeting, fronts_meeting) (take_at M (drop (length M) S) (length M) refl)

  -- as many as it counts
  counts_listed : (meeting_call v c B S).answer.value ≡ length (listed_by v c B S)
  counts_listed = rw (lists_meeting, counts_meeting)

  -- THE RUST'S WALK, which leaves a node whose box shares no point with all below it, lists the same
  pub lists_visited : listed_by v c B S ≡ visited_of c (index_of v)
  lists_visited = lists_meeting ∙ sym (visited_is c (index_of v) (nested v boxes_pass))

  listed_at : (k : ℕ) (box : Bool) → ltb k (box_count v) ≡ box
      → (times k (listed_by v c B S) ≤ 1) × (In k (listed_by v c B S) → k < box_count v)
  listed_at k box e = rw lists_meeting (go box e (sublist_times k (meeting_items c (index_of v))))
    where
      go : (box : Bool) → ltb k (box_count v) ≡ box → {n : ℕ} → n ≤ times k (items_of (index_of v)) → (n ≤ 1) × (0 < n → k < box_count v)
      go true e h = let l = ltb-true k (box_count v) e in let o = (items_once v k).0 l in (omega arith, λ p. l)
      go false e h = let o = (items_once v k).1 (ltb-false k (box_count v) e) in (omega arith, λ p. absurd (omega arith))

  -- ONCE: no number is listed twice
  pub lists_once : (k : ℕ) → times k (listed_by v c B S) ≤ 1
  lists_once k = (listed_at k (ltb k (box_count v)) refl).0

  -- and each is that of a box
  pub lists_boxes : (k : ℕ) → In k (listed_by v c B S) → k < box_count v
  lists_boxes k = (listed_at k (ltb k (box_count v)) refl).1

  -- EVERY BOX that shares a point with the cell is listed
  pub lists_sharing : Doubles v → (k : ℕ) → k < box_count v → SharedPoint (box_at v k) c → In k (listed_by v c B S)
  lists_sharing held k l shared =
      let field : FieldBox (box_at v k) = double_box_field (boxes_double v held k l) (passed_fits v boxes_pass k l) in
      rw lists_meeting (meeting_lists v c k boxes_pass l field (shared_not_apart (box_at v k) c shared))

-- ---- zooming out (document 02, U2): two calls over the same boxes, one for the cell c, one for a cell d that c lies inside, each with buffers of its own
module _ (v : List Float) (c d : Bounds) (B E : IndexBuffer) (S U : List ℕ)
    (passed : meeting_tested v c B S ≡ all_passed) (passes : meeting_tested v d E U ≡ all_passed) (inside : Around d c) where
  -- IN ORDER: what the inner cell lists is what the outer lists with some items left out
  pub zooming_out_order : Sublist (listed_by v c B S) (listed_by v d E U)
  zooming_out_order = rw (lists_meeting v c B S passed, lists_meeting v d E U passes) (meeting_sublist c d inside (index_of v))

  -- COUNTED: no fewer
  pub zooming_out_counts : (meeting_call v c B S).answer.value ≤ (meeting_call v d E U).answer.value
  zooming_out_counts = rw (counts_listed v c B S passed, counts_listed v d E U passes) (sublist_length zooming_out_order)

  -- KEPT: every item that the inner cell lists is listed for the outer
  pub zooming_out_keeps : (k : ℕ) → In k (listed_by v c B S) → In k (listed_by v d E U)
  zooming_out_keeps k = sublist_in k zooming_out_order
