-- The gap of every node of a tree that covers a set's outlines is at most the magnitude of each outline below it, what is clear of the squared gap is farther than it, and our own index is such a tree. Assumes nothing.
use mathlib.Core.Path.{◌≡◌, refl, ap}
use mathlib.Core.Bool.{Bool, true, false}
use mathlib.Core.List.{List, ◌++◌}
use Prim.Native.Nat.{ℕ, ◌≤◌, ◌<◌}
use native.Mathlib.Omega.{arith}
use borrow.Author.Tests.{ltb-true, ltb-false}
use lib.Dec.{T, ltb}
use lib.ListN.{length}
use lib.Ieee.{Float, inf, lt, le, is_nan}
use Rattle.number.proofs.OrderLaws.{below_le, left_not_nan}
use Rattle.boundary.specs.declared.Point.{Point}
use Rattle.boundary.specs.declared.Bounds.{Bounds}
use Rattle.boundary.specs.Boxes.{FieldPoint, FiniteBox, Around, widened_of, gap_of, gap_squares_of}
use Rattle.lists.specs.Lists.{run, In}
use Rattle.boundary.proofs.AroundLaws.{NotNan}
use Rattle.boundary.proofs.BoxLaws.{widened_box_finite}
use Rattle.lists.proofs.MemberLaws.{times_append}
use Rattle.boxes.specs.BoxLists.{box_count, wide_at, centre_of}
use Rattle.lists.proofs.RunLaws.{length_run}
use Rattle.tree.specs.Tree.{Tree, leaf, inner, hull_of, tree_of, index_of, items_of, EachNode}
use Rattle.tree.proofs.HullLaws.{hull_of_finite}
use Rattle.tree.proofs.TreeLaws.{left, right, length_left, length_right, times_halves, tree_induct, items_times, items_once}
use Rattle.nodes.specs.Layout.{nodes_of}
use Rattle.nodes.proofs.LayoutLaws.{length_below}
use Rattle.index.specs.Buffer.{IndexBuffer, Stands}
use Rattle.index.proofs.IndexCovers.{node_boxes, nodes_511}
use Rattle.set.specs.Set.{Outline, outline_in, set_box, set_boxes, Fitting, DoubleSet}
use Rattle.set.proofs.SetLaws.{outline_past, outline_numbers, boxes_length, box_at_set, boxes_tested_lem, box_field}
use Rattle.search.specs.Least.{magnitude_at}
use Rattle.search.specs.declared.Kept.{Kept}
use Rattle.search.specs.Walk.{Clear, Covered, Searched}
use Rattle.boundary.specs.Boxes.{DoubleBox}
use Rattle.search.proofs.MagnitudeLaws.{Length, magnitude_length, magnitude_none, gap_magnitude, node_beyond}

-- what holds of every node, of two facts that do
each_both : (P Q R : Bounds → List ℕ → Type 0) → ((b : Bounds) (is : List ℕ) → P b is → Q b is → R b is) → (t : Tree) → EachNode P t → EachNode Q t → EachNode R t
unfolding EachNode
each_both P Q R f (leaf b is) p q = f b is p q
each_both P Q R f (inner b s t) p q = (f b (items_of s ++ items_of t) p.0 q.0, each_both P Q R f s p.1 q.1, each_both P Q R f t p.2 q.2)

each_items : (P : ℕ → Type 0) (t : Tree) → ((i : ℕ) → In i (items_of t) → P i) → EachNode (λ b is. (i : ℕ) → In i is → P i) t
unfolding EachNode items_of
each_items P (leaf b is) h = h
each_items P (inner b l r) h = (
  h,
  each_items P l (λ i k. h i (let z = times_append i (items_of l) (items_of r) in omega arith)),
  each_items P r (λ i k. h i (let z = times_append i (items_of l) (items_of r) in omega arith)),
)

-- ---- the boxes of every node over finite boxes are of `f64`s
doubles : {b : Bounds} → FiniteBox b → DoubleBox b
doubles f = record { min = record { x = f.min.x.fits; y = f.min.y.fits }; max = record { x = f.max.x.fits; y = f.max.y.fits } }

module _ (W : ℕ → Bounds) where
  tree_held : (C : ℕ → Point) (is : List ℕ) → 0 < length is → ((i : ℕ) → In i is → FiniteBox (W i)) → EachNode (λ b _. DoubleBox b) (tree_of W C is)
  unfolding EachNode
  tree_held C is l F = tree_induct W C (λ is t. 0 < length is → ((i : ℕ) → In i is → FiniteBox (W i)) → EachNode (λ b _. DoubleBox b) t) (λ is _ l F. doubles (hull_of_finite W is l F)) step (length is) is (omega arith) l F
    where
      step : (is : List ℕ) (l r : Tree) → 4 < length is
          → (0 < length (left C is) → ((i : ℕ) → In i (left C is) → FiniteBox (W i)) → EachNode (λ b _. DoubleBox b) l)
          → (0 < length (right C is) → ((i : ℕ) → In i (right C is) → FiniteBox (W i)) → EachNode (λ b _. DoubleBox b) r)
          → 0 < length is → ((i : ℕ) → In i is → FiniteBox (W i)) → EachNode (λ b _. DoubleBox b) (inner (hull_of W is) l r)
      step is l r h p q s F =
          let a = length_left C is in
          let b = length_right C is in
          (doubles (hull_of_finite W is s F), p (omega arith) (λ i k. F i (let z = times_halves C is i in omega arith)), q (omega arith) (λ i k. F i (let z = times_halves C is i in omega arith)))

-- of magnitudes D by number, of which there are n: each of the items is one of those, the gap of the box is at most its magnitude, and where the squared gap is
-- above `far` it is farther than the best
pub record Gapped (D : ℕ → Float) (n : ℕ) (p : Point) (b : Bounds) (i : ℕ) : Type 0 where
  pub within : i < n
  pub gap : T (le (gap_of b p) (D i))
  pub beyond : (kept : Kept) → Clear p kept → lt kept.far (gap_squares_of b p) ≡ true → lt kept.best.distance (D i) ≡ true

abbrev pub Nearby : (ℕ → Float) → ℕ → Point → Bounds → List ℕ → Type 0
Nearby D n p b is = (i : ℕ) → In i is → Gapped D n p b i

-- ---- a set that passed the tests
module _ (os : List Outline) (fit : Fitting os) (held : DoubleSet os) where
  module _ (p : Point) (P : FieldPoint p) where
    -- each magnitude is a number below infinity
    pub set_magnitude : (k : ℕ) → k < length os → Length (magnitude_at os p k)
    set_magnitude k l = magnitude_length (outline_in os k) (outline_numbers os fit held k l) p P (fit.some k l)

    -- there is no outline past the last: it counts as infinitely far
    pub past_magnitude : magnitude_at os p (length os) ≡ inf false
    past_magnitude = rw (outline_past os (length os) (omega arith)) (magnitude_none p)

    pub magnitude_number : (k : ℕ) → k ≤ length os → NotNan (magnitude_at os p k)
    magnitude_number k l = go (ltb k (length os)) refl
      where
        go : (b : Bool) → ltb k (length os) ≡ b → NotNan (magnitude_at os p k)
        go true e = left_not_nan (magnitude_at os p k) (inf false) (below_le (magnitude_at os p k) (inf false) (set_magnitude k (ltb-true k (length os) e)).finite)
        go false e = let z : k ≡ length os = (let m = ltb-false k (length os) e in omega arith) in rw (z, past_magnitude) (unfold is_nan in tt)

    -- THE GAPS of a tree that covers the outlines
    pub tree_gaps : (t : Tree) → EachNode (λ b is. (i : ℕ) → In i is → Covered os b i) t → EachNode (λ b _. DoubleBox b) t → EachNode (Nearby (magnitude_at os p) (length os) p) t
    tree_gaps t =
        each_both (λ b is. (i : ℕ) → In i is → Covered os b i) (λ b _. DoubleBox b) (Nearby (magnitude_at os p) (length os) p)
        (λ b is C F i h. one b F i (C i h)) t
      where
        one : (b : Bounds) → DoubleBox b → (i : ℕ) → Covered os b i → Gapped (magnitude_at os p) (length os) p b i
        one b F i C =
            let l = C.within in
            let N = outline_numbers os fit held i l in
            let B = box_field os fit held i l in
            record {
              within = l;
              gap = gap_magnitude (outline_in os i) N p P (fit.some i l) b B F C.around;
              beyond = λ kept c. node_beyond (outline_in os i) N p P (fit.some i l) c b B F C.around;
            }

  -- ---- our index
  abbrev boxes : List Float
  boxes = set_boxes os

  boxes_counted : box_count boxes ≡ length os
  boxes_counted = let n = boxes_length os in omega arith

  item_within : (i : ℕ) → In i (items_of (index_of boxes)) → i < length os
  item_within i h = go (ltb i (length os)) refl
    where
      go : (b : Bool) → ltb i (length os) ≡ b → i < length os
      go true e = ltb-true i (length os) e
      go false e =
          let m = ltb-false i (length os) e in
          let n = boxes_counted in
          let z = (items_once boxes i).1 (omega arith) in
          absurd (omega arith)

  pub index_has : (i : ℕ) → i < length os → In i (items_of (index_of boxes))
  index_has i l =
      let n = boxes_counted in
      let o = (items_once boxes i).0 (omega arith) in
      omega arith

  wide_is : (i : ℕ) → i < length os → wide_at boxes i ≡ widened_of (set_box os i)
  unfolding wide_at
  wide_is i l = ap widened_of (box_at_set os i l)

  pub index_covers : EachNode (λ b is. (i : ℕ) → In i is → Covered os b i) (index_of boxes)
  index_covers =
      each_both (λ b is. (i : ℕ) → In i is → Around b (wide_at boxes i)) (λ b is. (i : ℕ) → In i is → i < length os) (λ b is. (i : ℕ) → In i is → Covered os b i)
      (λ b is A W i h. record { within = W i h; around = rw (wide_is i (W i h)) at (A i h) })
      (index_of boxes) (node_boxes boxes (boxes_tested_lem os fit)) (each_items (λ i. i < length os) (index_of boxes) item_within)

  pub index_held : 0 < length os → EachNode (λ b _. DoubleBox b) (index_of boxes)
  unfolding index_of
  index_held s =
      let n = boxes_counted in
      let numbers = run (λ i. i) 0 (box_count boxes) in
      tree_held (wide_at boxes) (λ i. centre_of (wide_at boxes i)) numbers (rw (length_run (λ i. i) 0 (box_count boxes), n) s)
      (λ i h.
      let e = items_times (wide_at boxes) (λ i. centre_of (wide_at boxes i)) i numbers in
      let l = item_within i (omega arith) in
      rw (wide_is i l) (widened_box_finite (box_field os fit held i l)))

  -- OUR INDEX, where it stands in a buffer
  pub index_searched : 0 < length os → (B : IndexBuffer) → Stands B 0 (index_of boxes) → Searched os B
  unfolding nodes_of
  index_searched s B S =
      let n = nodes_511 boxes (boxes_tested_lem os fit) in
      let e = length_below (index_of boxes) 0 1 in
      record { tree = index_of boxes; stands = S; few = omega arith; has = index_has; covers = index_covers; held = index_held s }
