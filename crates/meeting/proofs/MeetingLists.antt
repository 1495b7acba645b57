-- Every box that shares a point with the cell is listed. Assumes nothing.
use Rattle.accept.specs.Refusals.{all_passed}
use mathlib.Core.Path.{◌≡◌, refl, sym, ◌∙◌}
use mathlib.Core.Bool.{Bool, true, false, cond, true≢false}
use mathlib.Core.List.{List, []}
use mathlib.Core.Logic.{◌⊎◌, inl, inr, ⊎_elim}
use Prim.Native.Nat.{ℕ, zero, suc, ◌+◌, ◌<◌}
use native.Mathlib.Omega.{arith}
use lib.Ieee.{Float}
use Rattle.boundary.specs.declared.Bounds.{Bounds}
use Rattle.boundary.specs.Boxes.{Around, FieldBox}
use Rattle.boundary.proofs.BoxLaws.{widened_around}
use Rattle.lists.proofs.MemberLaws.{times_append}
use Rattle.lists.specs.Lists.{times, In}
use Rattle.boxes.specs.BoxLists.{box_count, box_at, wide_at}
use Rattle.tree.specs.Tree.{Tree, leaf, inner, index_of, items_of, EachNode}
use Rattle.tree.proofs.TreeLaws.{items_once}
use Rattle.index.specs.Answers.{boxes_tested}
use Rattle.index.proofs.IndexCovers.{node_boxes}
use Rattle.meeting.specs.Meeting.{apart, meeting_of}
use Rattle.meeting.proofs.ApartLaws.{apart_inside}

module _ (W : ℕ → Bounds) (c : Bounds) (i : ℕ) (meets : apart (W i) c ≡ false) where
  -- where each node's box is around the boxes below it, an item whose box meets the cell is listed
  listed_below : (t : Tree) → EachNode (λ b is. (i : ℕ) → In i is → Around b (W i)) t → In i (items_of t) → In i (meeting_of c t)
  unfolding EachNode items_of meeting_of
  listed_below (leaf b is) h k = go (apart b c) refl
    where
      go : (x : Bool) → apart b c ≡ x → In i (cond x [] is)
      go true e = absurd (true≢false (sym (apart_inside b (W i) c (h i k) e) ∙ meets))
      go false e = k
  listed_below (inner b l r) h k =
      let p : In i (items_of l) → In i (meeting_of c l) = listed_below l h.1 in
      let q : In i (items_of r) → In i (meeting_of c r) = listed_below r h.2 in
      either (times i (items_of l)) (times i (items_of r)) (times i (meeting_of c l)) (times i (meeting_of c r)) p q
      (times_append i (items_of l) (items_of r)) (times_append i (meeting_of c l) (meeting_of c r)) k
    where
      pos_either : (a b : ℕ) → 0 < a + b → (0 < a) ⊎ (0 < b)
      pos_either zero b h = inr (omega arith)
      pos_either (suc a) b h = inl (omega arith)

      either : {n m : ℕ} (a b u v : ℕ) → (0 < a → 0 < u) → (0 < b → 0 < v) → n ≡ a + b → m ≡ u + v → 0 < n → 0 < m
      either a b u v p q e f h = ⊎_elim (λ x. let z = p x in omega arith) (λ y. let z = q y in omega arith) (pos_either a b (omega arith))

-- a box of the field has its widened box around it
wide_around : (v : List Float) (i : ℕ) → FieldBox (box_at v i) → Around (wide_at v i) (box_at v i)
unfolding wide_at
wide_around v i f = widened_around f

-- LISTED: every box that shares a point with the cell
pub meeting_lists : (v : List Float) (c : Bounds) (i : ℕ) → boxes_tested v ≡ all_passed → i < box_count v → FieldBox (box_at v i)
    → apart (box_at v i) c ≡ false → In i (meeting_of c (index_of v))
meeting_lists v c i p h f e =
    let once = (items_once v i).0 h in
    listed_below (wide_at v) c i (wide_meets (apart (wide_at v i) c) refl) (index_of v) (node_boxes v p) (omega arith)
  where
    wide_meets : (x : Bool) → apart (wide_at v i) c ≡ x → x ≡ false
    wide_meets true g = sym (apart_inside (wide_at v i) (box_at v i) c (wide_around v i f) g) ∙ e
    wide_meets false g = refl
