-- What `any_at` tells: yes where an outline whose box has the point contains it, and yes only where an outline listed for the point contains it. Assumes nothing.
use mathlib.Core.Path.{◌≡◌, refl, sym, ap, ◌∙◌}
use mathlib.Core.Bool.{Bool, true, false, cond, ◌||◌, true≢false}
use mathlib.Core.List.{List, [], ◌∷◌}
use Prim.Native.Nat.{ℕ, ◌+◌, ◌≤◌, ◌<◌}
use native.Mathlib.Omega.{arith}
use borrow.Author.Tests.{eqb-true, ltb-true, ltb-false}
use lib.Dec.{eqb, ltb}
use lib.ListN.{length}
use Rattle.boundary.specs.declared.Point.{Point}
use Rattle.lists.specs.Lists.{run, fold, any, odd_many, times, In}
use Rattle.boundary.specs.Outline.{edges}
use Rattle.geometry.specs.Polygon.{contains_of}
use Rattle.meeting.specs.Meeting.{apart}
use Rattle.meeting.proofs.MeetingLists.{meeting_lists}
use Rattle.set.specs.Set.{Outline, set_box, set_boxes, Fitting, DoubleSet}
use Rattle.lists.proofs.FoldLaws.{any_from}
use Rattle.lists.proofs.MemberLaws.{in_first, in_rest}
use Rattle.set.proofs.SetLaws.{outline_past, boxes_length, box_at_set, boxes_tested_lem, box_field}
use Rattle.boundary.specs.Boxes.{point_box}
use Rattle.any.specs.Answers.{listed_at, contains_in, any_at}

module _ (f : ℕ → Bool) where
  -- a member passes
  any_in : (x : ℕ) (xs : List ℕ) → In x xs → f x ≡ true → any f xs ≡ true
  unfolding any fold times
  any_in x [] h e = absurd (omega arith)
  any_in x (y ∷ ys) h e = any_from f (f y) ys ∙ go (eqb y x) refl h (λ k. any_in x ys k e)
    where
      or_true : (b : Bool) → (b || true) ≡ true
      or_true true = refl
      or_true false = refl

      go : (b : Bool) → eqb y x ≡ b → 0 < cond b 1 0 + times x ys → (In x ys → any f ys ≡ true) → (f y || any f ys) ≡ true
      go true z k rest = rw (ap f (eqb-true y x z), e)
      go false z k rest = rw (rest (omega arith)) (or_true (f y))

  -- the member that passes
  any_some : (xs : List ℕ) → any f xs ≡ true → (x : ℕ) × In x xs × (f x ≡ true)
  unfolding any fold
  any_some [] e = absurd (true≢false (sym e))
  any_some (y ∷ ys) e = go (f y) refl (sym (any_from f (f y) ys) ∙ e) (any_some ys)
    where
      go : (b : Bool) → f y ≡ b → (b || any f ys) ≡ true → (any f ys ≡ true → (x : ℕ) × In x ys × (f x ≡ true)) → (x : ℕ) × In x (y ∷ ys) × (f x ≡ true)
      go true z h rest = (y, in_first y ys, z)
      go false z h rest = let r = rest h in (r.0, in_rest r.0 y ys r.1, r.2)

module _ (os : List Outline) (p : Point) where
  -- YES where an outline contains the point and its box has it: the outlines' numbers are `f64`s
  pub any_at_yes : Fitting os → DoubleSet os → (k : ℕ) → k < length os → apart (set_box os k) (point_box p) ≡ false → contains_in os p k ≡ true → any_at os p ≡ true
  unfolding any_at listed_at
  any_at_yes fit held k l meets e =
      let n = boxes_length os in
      let b = box_at_set os k l in
      any_in (contains_in os p) k (listed_at os p)
      (meeting_lists (set_boxes os) (point_box p) k (boxes_tested_lem os fit) (omega arith) (rw b (box_field os fit held k l)) (rw b meets)) e

  -- past the last outline there is none
  contains_past : (k : ℕ) → length os ≤ k → false ≡ contains_in os p k
  unfolding contains_of odd_many fold edges run
  contains_past k l = rw (outline_past os k l)

  -- YES only where an outline of the set that is listed for the point contains it
  pub any_at_some : any_at os p ≡ true → (k : ℕ) × (k < length os) × In k (listed_at os p) × (contains_in os p k ≡ true)
  unfolding any_at
  any_at_some e =
      let s = any_some (contains_in os p) (listed_at os p) e in
      (s.0, within s.0 s.2 (ltb s.0 (length os)) refl, s.1, s.2)
    where
      within : (k : ℕ) → contains_in os p k ≡ true → (b : Bool) → ltb k (length os) ≡ b → k < length os
      within k h true b = ltb-true k (length os) b
      within k h false b = absurd (true≢false (sym h ∙ sym (contains_past k (ltb-false k (length os) b))))
