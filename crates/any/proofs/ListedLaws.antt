-- What the walk of a set's index lists for a point, and what `any_at` then answers. Assumes nothing.
use mathlib.Core.Path.{◌≡◌, refl, ap, ◌∙◌}
use mathlib.Core.Bool.{Bool}
use mathlib.Core.List.{List}
use Prim.Native.Nat.{ℕ, ◌-◌, ◌*◌, ◌≤◌, ◌<◌}
use native.Mathlib.Nat.{sub-zero}
use native.Mathlib.Omega.{arith}
use lib.ListN.{length, take, drop}
use lib.Seq.{take_at}
use lib.Ieee.{Float}
use Rattle.boundary.specs.declared.Point.{Point}
use Rattle.boundary.specs.Boxes.{point_box}
use Rattle.lists.specs.Lists.{any}
use Rattle.lists.proofs.StoreLaws.{sets_front}
use Rattle.tree.specs.Tree.{index_of}
use Rattle.index.specs.Buffer.{IndexBuffer}
use Rattle.index.proofs.GrowLaws.{length_index_items}
use Rattle.index.proofs.IndexCovers.{index_levels}
use Rattle.meeting.specs.Walk.{found}
use Rattle.meeting.proofs.WalkLaws.{Puts, put_list, put_place}
use Rattle.meeting.proofs.MeetingLaws.{length_meeting, found_standing}
use Rattle.set.specs.Set.{Outline, outlines_of, set_boxes, Fit, Fitting}
use Rattle.set.specs.Answers.{Indexed}
use Rattle.set.proofs.SetLaws.{outlines_length, boxes_tested_lem}
use Rattle.set.proofs.AskLaws.{boxes_size}
use Rattle.any.specs.Answers.{listed_at, contains_in, any_at}

module _ (v : List Float) (cs : List ℕ) (p : Point) (fit : Fit v cs) (fitting : Fitting (outlines_of v cs)) (B : IndexBuffer) (indexed : Indexed (outlines_of v cs) B) where
  abbrev os : List Outline
  os = outlines_of v cs

  abbrev boxes : List Float
  boxes = set_boxes os

  abbrev walked : List ℕ
  walked = found 9 (4 * length cs) B (point_box p)

  some_outline : (length boxes ≡ 0 → ⊥) → 0 < length os
  some_outline some =
      let n = outlines_length v cs in
      let l = boxes_size v cs in
      pos_of (length os) (λ z. some (omega arith))
    where
      pos_of : (n : ℕ) → (n ≡ 0 → ⊥) → 0 < n
      pos_of n h = omega arith

  walked_is : walked ≡ listed_at os p
  unfolding listed_at
  walked_is =
      let passed = boxes_tested_lem os fitting in
      rw (← boxes_size v cs) (found_standing boxes (point_box p) passed B (λ some. indexed (some_outline some)) 9 (index_levels boxes passed))

  few_walked : length walked ≤ 1024
  unfolding listed_at
  few_walked =
      let b = boxes_size v cs in
      let s = fit.size in
      let e = ap length walked_is in
      let m = length_meeting (point_box p) (index_of boxes) in
      let i = length_index_items boxes in
      omega arith

  module _ (S S' : List ℕ) (r : ℕ) (room : 1024 ≤ length S) (put : Puts S 0 walked S' r) where
    -- the front of the lent list is what the walk lists
    front_is : take (r - 0) (drop 0 S') ≡ listed_at os p
    front_is =
        let few = few_walked in
        let place = put_place S 0 walked S' r put in
        let count : r ≡ length walked = omega arith in
        rw (sub-zero r, put_list S 0 walked S' r put, sets_front S walked (omega arith), count) (take_at walked (drop (length walked) S) (length walked) refl ∙ walked_is)

    pub any_listed : (a : Bool) → a ≡ any (contains_in os p) (take (r - 0) (drop 0 S')) → a ≡ any_at os p
    unfolding any_at
    any_listed a h = h ∙ ap (any (contains_in os p)) front_is
