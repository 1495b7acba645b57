-- The walk of the buffer lists what `meeting` says: leaf boxes alone decide, and no item is listed twice as far as there is room. Assumes nothing.
use Rattle.std.proofs.Common.{Ok, Err}
use mathlib.Core.Path.{◌≡◌, refl, sym, ap, ◌∙◌}
use mathlib.Core.Bool.{Bool, true, false, not, cond}
use mathlib.Core.List.{List, [], ◌∷◌, ◌++◌}
use Prim.Native.Nat.{ℕ, zero, suc, ◌+◌, ◌≤◌}
use native.Mathlib.Omega.{arith}
use lib.Dec.{eqb, ltb}
use lib.ListN.{length}
use lib.Ieee.{Float}
use borrow.Author.Tests.{eqb-true, eqb-false, lt-ltb, le-ltb, ltb-false}
use Rattle.boundary.specs.declared.Bounds.{Bounds}
use Rattle.boundary.specs.Boxes.{box_fits}
use Rattle.accept.specs.Answers.{Outcome}
use Rattle.lists.specs.Lists.{Sublist, at_front}
use Rattle.lists.proofs.SublistLaws.{sublist_self, sublist_none, sublist_append, sublist_length}
use Rattle.accept.specs.Refusals.{Test, all_passed, ◌refusing◌when◌}
use Rattle.accept.specs.declared.Refusal.{Refusal}
use Rattle.accept.specs.declared.Refusal.TheVariants.{BadBox, ShortBuffer}
use Rattle.accept.proofs.TestLaws.{refusing_passed}
use Rattle.tree.specs.Tree.{Tree, leaf, inner, tree_box, index_of, items_of}
use Rattle.nodes.specs.Layout.{first_at, count_at}
use Rattle.index.specs.Buffer.{IndexBuffer, short_buffer, holding, grown, cleared, Stands, levels}
use Rattle.index.specs.Answers.{boxes_tested, Accepted}
use Rattle.lists.proofs.StoreLaws.{sets_front}
use Rattle.index.proofs.GrowLaws.{length_index_items, accepted_of, grown_lent, holding_cleared}
use Rattle.index.proofs.IndexCovers.{Nested, nested, index_stands}
use Rattle.meeting.specs.Meeting.{apart, meeting_of, visited_of}
use Rattle.meeting.specs.Walk.{hits, found}
use Rattle.meeting.specs.Answers.{MeetingLent, meeting_tested, listing, meeting_outcome}
use Rattle.meeting.proofs.ApartLaws.{apart_inside}
use Rattle.meeting.proofs.WalkLaws.{Puts, put_list, put_place, hits_level}

-- ---- leaf boxes alone decide
module _ (c : Bounds) where
  meeting_none : (t : Tree) → Nested t → apart (tree_box t) c ≡ true → meeting_of c t ≡ []
  unfolding meeting_of Nested
  meeting_none (leaf b is) n e = rw e
  meeting_none (inner b l r) n e =
      rw (meeting_none l n.3 (apart_inside b (tree_box l) c n.1 e), meeting_none r n.4 (apart_inside b (tree_box r) c n.2 e))

  -- THE WALK that leaves a node whose box shares no point lists the same
  pub visited_is : (t : Tree) → Nested t → visited_of c t ≡ meeting_of c t
  unfolding visited_of meeting_of Nested
  visited_is (leaf b is) n = refl
  visited_is (inner b l r) n = go (apart b c) refl (visited_is l n.3) (visited_is r n.4)
    where
      go : (x : Bool) → apart b c ≡ x → visited_of c l ≡ meeting_of c l → visited_of c r ≡ meeting_of c r
          → cond x [] (visited_of c l ++ visited_of c r) ≡ meeting_of c l ++ meeting_of c r
      go true e p q = rw (meeting_none l n.3 (apart_inside b (tree_box l) c n.1 e), meeting_none r n.4 (apart_inside b (tree_box r) c n.2 e))
      go false e p q = rw (p, q)

  -- the tree's items in their order, with some left out
  pub meeting_items : (t : Tree) → Sublist (meeting_of c t) (items_of t)
  unfolding meeting_of items_of
  meeting_items (leaf b is) = go (apart b c)
    where
      go : (x : Bool) → Sublist (cond x [] is) is
      go true = sublist_none is
      go false = sublist_self is
  meeting_items (inner b l r) = sublist_append (meeting_items l) (meeting_items r)

  pub length_meeting : (t : Tree) → length (meeting_of c t) ≤ length (items_of t)
  length_meeting t = sublist_length (meeting_items t)

  -- ---- the walk of a buffer in which a tree stands
  visited_leaf : (b : Bounds) (is : List ℕ) → visited_of c (leaf b is) ≡ cond (apart b c) [] is
  unfolding visited_of
  visited_leaf b is = refl

  visited_inner : (b : Bounds) (l r : Tree) → visited_of c (inner b l r) ≡ cond (apart b c) [] (visited_of c l ++ visited_of c r)
  unfolding visited_of
  visited_inner b l r = refl

  pub hits_is : (B : IndexBuffer) (t : Tree) (d n : ℕ) → Stands B n t → levels t ≤ d → hits d B c n ≡ visited_of c t
  unfolding Stands levels
  hits_is B (leaf b is) zero n s h = absurd (omega arith)
  hits_is B (inner b l r) zero n s h = absurd (omega arith)
  hits_is B (leaf b is) (suc d) n s h = rw (hits_level B c n d, s.0, lt-ltb 0 (count_at B.links n) s.1, s.2, visited_leaf b is)
  hits_is B (inner b l r) (suc d) n s h =
      let f = first_at B.links n in
      let p = hits_is B l d f s.3 (omega arith) in
      let q = hits_is B r d (f + 1) s.4 (omega arith) in
      let none : count_at B.links n ≡ 0 = s.1 in
      rw (hits_level B c n d, s.0, le-ltb 0 (count_at B.links n) (omega arith), p, q, visited_inner b l r)

-- ---- what the call leaves
no_items : (xs : List ℕ) → length xs ≤ 0 → xs ≡ []
no_items [] h = refl
no_items (x ∷ xs) h = absurd (omega arith)

module _ (v : List Float) (c : Bounds) (passed : boxes_tested v ≡ all_passed) where
  -- the walk of a buffer in which the index stands finds what `meeting` says
  pub found_standing : (B : IndexBuffer) → ((length v ≡ 0 → ⊥) → Stands B 0 (index_of v)) → (d : ℕ) → levels (index_of v) ≤ d
      → found d (length v) B c ≡ meeting_of c (index_of v)
  unfolding found
  found_standing B stands d h = go (eqb (length v) 0) refl
    where
      go : (b : Bool) → eqb (length v) 0 ≡ b → cond b [] (hits d B c 0) ≡ meeting_of c (index_of v)
      go true e =
          let z : length v ≡ 0 = eqb-true (length v) 0 e in
          let n = length_index_items v in
          let l = length_meeting c (index_of v) in
          sym (no_items (meeting_of c (index_of v)) (omega arith))
      go false e = hits_is c B (index_of v) d 0 (stands (eqb-false (length v) 0 e)) h ∙ visited_is c (index_of v) (nested v passed)

module _ (v : List Float) (c : Bounds) (passed : boxes_tested v ≡ all_passed) (B : IndexBuffer) where
  -- so does the walk of what building leaves
  pub found_is : (d : ℕ) → levels (index_of v) ≤ d → found d (length v) (holding (index_of v) B) c ≡ meeting_of c (index_of v)
  found_is = found_standing v c passed (holding (index_of v) B) (index_stands v B passed)

  pub listed_of : (d : ℕ) (D E : IndexBuffer) (S S' : List ℕ) (k r : ℕ) → levels (index_of v) ≤ d
      → Accepted v (length B.corners) (length B.links) (length B.items) → 1024 ≤ length S
      → record { answer = k; lent = D } ≡ grown (index_of v) B → Puts S 0 (found d (length v) D c) S' r → E ≡ cleared D
      → record { answer = r; lent = record { buffer = E; list = S' } } ≡ listing v c B S
  unfolding listing at_front
  listed_of d D E S S' k r deep A room g p z =
      let t = index_of v in
      let held : D ≡ holding t B = grown_lent t B g in
      let same : found d (length v) D c ≡ meeting_of c t = rw held (found_is d deep) in
      let size = A.size in
      let n = length_index_items v in
      let m = length_meeting c t in
      let q : Puts S 0 (meeting_of c t) S' r = rw same at p in
      let place = put_place S 0 (meeting_of c t) S' r q in
      let count : r ≡ length (meeting_of c t) = omega arith in
      let list = put_list S 0 (meeting_of c t) S' r q ∙ sets_front S (meeting_of c t) (omega arith) in
      let clean : E ≡ cleared B = z ∙ rw held (holding_cleared v B A) in
      rw (count, list, clean)

module _ (v : List Float) (c : Bounds) (B : IndexBuffer) (S : List ℕ) where
  -- what a call that passes the tests has
  pub meeting_accepted : {t : Test} → t ≡ meeting_tested v c B S → t ≡ all_passed
      → Accepted v (length B.corners) (length B.links) (length B.items) × (boxes_tested v ≡ all_passed) × (1024 ≤ length S)
  unfolding meeting_tested
  meeting_accepted tested e =
      let cell = boxes_tested v refusing BadBox when not (box_fits c) in
      let list = refusing_passed (cell refusing ShortBuffer when short_buffer B) ShortBuffer (ltb (length S) 1024) (sym tested ∙ e) in
      let room = refusing_passed cell ShortBuffer (short_buffer B) list.0 in
      let boxes = (refusing_passed (boxes_tested v) BadBox (not (box_fits c)) room.0).0 in
      (accepted_of v (length B.corners) (length B.links) (length B.items) room.1 boxes, boxes, ltb-false (length S) 1024 list.1)

  pub listing_count : {r : ℕ} {M : MeetingLent} → record { answer = r; lent = M } ≡ listing v c B S → r ≡ length (meeting_of c (index_of v))
  unfolding listing
  listing_count e = ap (λ (o : Outcome ℕ MeetingLent). o.answer) e

  -- what every call leaves
  pub met : {t : Test} {r : ℕ} {M : MeetingLent} → t ≡ meeting_tested v c B S → t ≡ all_passed → record { answer = r; lent = M } ≡ listing v c B S
      → record { answer = Ok r; lent = M } ≡ meeting_outcome v c B S
  unfolding meeting_outcome
  met tested e l = rw (← tested, e) (ap (λ (o : Outcome ℕ MeetingLent). record { answer = Ok o.answer; lent = o.lent }) l)

  pub meeting_refused : {t : Test} {r : Refusal} → t ≡ meeting_tested v c B S → t ≡ Err r
      → record { answer = Err r; lent = record { buffer = B; list = S } } ≡ meeting_outcome v c B S
  unfolding meeting_outcome
  meeting_refused tested e = rw (← tested, e)
