-- THE RUST'S BUILD gives the index, whatever its selections leave, once each leaf's items are put in ascending order, but for the signs of zeros in its boxes; and what an accepted call gives beside it. Assumes nothing.
use Rattle.std.proofs.Common.{Ok, Err}
use Rattle.accept.specs.Refusals.{Answer, all_passed}
use mathlib.Core.Path.{◌≡◌, refl, sym, ap, ◌∙◌, subst}
use mathlib.Core.Bool.{Bool, true, false}
use mathlib.Core.List.{List}
use Prim.Native.Nat.{ℕ, zero, suc, ◌+◌, ◌*◌, ◌/◌, ◌^◌, ◌≤◌, ◌<◌}
use native.Mathlib.Nat.{le_trans, mul-le-mul, le_refl}
use native.Mathlib.Omega.{arith}
use borrow.Author.Tests.{ltb-true, ltb-false}
use lib.Dec.{leb, ltb, lit≤}
use lib.Ieee.{Float, binary64, add, sub}
use lib.Ieee.Fits.{mul-fits}
use lib.ListN.{length, take, drop, take-append-drop, length-drop}
use lib.Seq.{length-take-le}
use lib.IntN.{pos}
use Rattle.number.specs.Exact.{Is, Held, Doubles}
use Rattle.number.proofs.Operations.{equation→is, is_held}
use Rattle.number.proofs.ExactLaws.{mul_result}
use Rattle.number.proofs.Values.{add_grown, sub_grown}
use Rattle.boundary.specs.declared.Point.{Point}
use Rattle.boundary.specs.declared.Bounds.{Bounds}
use Rattle.boundary.specs.Boxes.{PointOf, FieldValue, FieldBox, DoubleBox, hull_ieee, widened_of}
use Rattle.lists.specs.Lists.{run, times, In}
use Rattle.boundary.specs.Line.{half, middle}
use Rattle.boundary.proofs.AroundLaws.{NumberBox}
use Rattle.boundary.proofs.FieldLaws.{field_is, fits_in_field, double_field}
use Rattle.boundary.proofs.BoxLaws.{widening_field}
use Rattle.accept.specs.declared.Refusal.TheVariants.{ShortBuffer}
use Rattle.accept.specs.Answers.{Outcome}
use Rattle.accept.proofs.TestLaws.{refusing_passed, given_passed}
use Rattle.sorts.specs.Sort.{sort, Selected}
use Rattle.sorts.specs.Keys.{precedes}
use Rattle.lists.proofs.MemberLaws.{times_append, numbers_below}
use Rattle.sorts.proofs.SortLaws.{length_sort}
use Rattle.sorts.proofs.SelectLaws.{selected_first, selected_rest, sort_selected}
use Rattle.boxes.specs.BoxLists.{box_count, box_at, wide_at, centre_of}
use Rattle.tree.specs.Tree.{Tree, leaf, inner, hull_by, along_y_by, along_y, centre_along, ordered, tree_of, index_of}
use Rattle.index.specs.Buffer.{IndexBuffer, short_buffer, holding}
use Rattle.index.specs.Answers.{size_of, boxes_tested, build_tested, build_outcome}
use Rattle.index.specs.declared.TreeSize.{TreeSize}
use Rattle.index.specs.Rust.{Builds, few, many, BuiltTree, BuildsIndex, BuiltAsRust, ascended, SameTree, same_leaf, same_inner}
use Rattle.tree.proofs.TreeLaws.{left, right, tree_leaf, tree_split, tree_sorted}
use Rattle.tree.proofs.AnyOrder.{hull_same, axis_same}
use Rattle.index.proofs.IndexCovers.{passed_fits, listed_number}

-- the members of a part are members of the list
part_members : (m : ℕ) (is ys : List ℕ) → ((i : ℕ) → times i ys ≡ times i is) → (i : ℕ) → (In i (take m ys) → In i is) × (In i (drop m ys) → In i is)
part_members m is ys same i =
    let a = times_append i (take m ys) (drop m ys) in
    let b = ap (times i) (take-append-drop m ys) in
    let c = same i in
    (λ h. omega arith, λ h. omega arith)

module _ (W : ℕ → Bounds) (C : ℕ → Point) where
  -- lists that ascend to the same list have the same tree
  tree_members : (xs ys : List ℕ) → sort leb xs ≡ sort leb ys → tree_of W C xs ≡ tree_of W C ys
  tree_members xs ys e = sym (tree_sorted W C leb xs) ∙ ap (tree_of W C) e ∙ tree_sorted W C leb ys

  module _ (is ys : List ℕ) (h : 4 < length is) (s : Selected (precedes (centre_along (along_y C is) C)) (length is / 2) is ys) where
    -- the trees over the parts that a selection leaves are those over the halves
    tree_first : tree_of W C (take (length is / 2) ys) ≡ tree_of W C (left C is)
    unfolding ordered
    tree_first = tree_members (take (length is / 2) ys) (left C is) (selected_first (centre_along (along_y C is) C) (length is / 2) is ys (omega arith) s)

    tree_rest : tree_of W C (drop (length is / 2) ys) ≡ tree_of W C (right C is)
    unfolding ordered
    tree_rest = tree_members (drop (length is / 2) ys) (right C is) (selected_rest (centre_along (along_y C is) C) (length is / 2) is ys (omega arith) s)

  -- over entries whose boxes have no NaN and whose centres are finite
  pub builds_same : {is : List ℕ} {t : Tree} → ((i : ℕ) → In i is → NumberBox (W i)) → ((i : ℕ) → In i is → PointOf Held (C i)) → Builds W C is t → SameTree (ascended t) (tree_of W C is)
  unfolding ascended
  builds_same N H (few {is = is} h) = subst (SameTree (leaf (hull_by hull_ieee W is) (sort leb is))) (sym (tree_leaf W C (length is) is h)) (same_leaf (hull_same W is N))
  builds_same N H (many {is = is} {ys = ys} {l = l} {r = r} h s p q) =
      let m = length is / 2 in
      let s' : Selected (precedes (centre_along (along_y C is) C)) m is ys = subst (λ (y : Bool). Selected (precedes (centre_along y C)) m is ys) (axis_same C is (omega arith) H) s in
      let part = part_members m is ys s.same in
      let P = builds_same (λ i k. N i ((part i).0 k)) (λ i k. H i ((part i).0 k)) p in
      let Q = builds_same (λ i k. N i ((part i).1 k)) (λ i k. H i ((part i).1 k)) q in
      subst (SameTree (inner (hull_by hull_ieee W is) (ascended l) (ascended r))) (sym (tree_split W C is h))
      (same_inner (hull_same W is N) (subst (SameTree (ascended l)) (tree_first is ys h s') P) (subst (SameTree (ascended r)) (tree_rest is ys h s') Q))

  -- and there is such a tree over every list: a sort is a selection
  pub builds_some : (is : List ℕ) → BuiltTree W C is
  builds_some is = go (length is) is (omega arith)
    where
      step : (f : ℕ) (js : List ℕ) → length js ≤ suc f → ((ks : List ℕ) → length ks ≤ f → BuiltTree W C ks) → (b : Bool) → ltb 4 (length js) ≡ b → BuiltTree W C js
      step f js h built false e = record { tree = leaf (hull_by hull_ieee W js) js; builds = few (ltb-false 4 (length js) e) }
      step f js h built true e =
          let l = ltb-true 4 (length js) e in
          let key = centre_along (along_y_by hull_ieee C js) C in
          let m = length js / 2 in
          let ys = sort (precedes key) js in
          let n = length_sort (precedes key) js in
          let a = length-take-le m ys (omega arith) in
          let b = length-drop m ys in
          let P = built (take m ys) (omega arith) in
          let Q = built (drop m ys) (omega arith) in
          record { tree = inner (hull_by hull_ieee W js) P.tree Q.tree; builds = many l (sort_selected key m js) P.builds Q.builds }

      go : (f : ℕ) (js : List ℕ) → length js ≤ f → BuiltTree W C js
      go zero js h = record { tree = leaf (hull_by hull_ieee W js) js; builds = few {is = js} (omega arith) }
      go (suc f) js h = step f js h (go f) (ltb 4 (length js)) refl

-- ---- of a list of boxes

half_units : Is 1074 half (pos (2 ^ 1073))
half_units = equation→is half refl

-- half the sum of a number of the field less another and one with it is finite
middle_held : {a b w : Float} → FieldValue a → FieldValue b → FieldValue w → Held (middle (sub binary64 a w) (add binary64 b w))
middle_held {a} {b} {w} A B W =
    let x = sub_grown (field_is A).1 (field_is W).1 (lit≤ tt) in
    let y = add_grown (field_is B).1 (field_is W).1 (lit≤ tt) in
    let s = add_grown x.1 y.1 (lit≤ tt) in
    is_held (mul_result half_units s.1.is (le_trans (mul-le-mul (le_refl _) s.1.near) (lit≤ tt))).is (mul-fits binary64 half (add binary64 (sub binary64 a w) (add binary64 b w)))

-- the centre of a widened box of the field is finite
centre_held : {b : Bounds} → FieldBox b → PointOf Held (centre_of (widened_of b))
unfolding centre_of widened_of
centre_held B = let w = widening_field B in record { x = middle_held B.min.x B.max.x w; y = middle_held B.min.y B.max.y w }

module _ (v : List Float) (passed : boxes_tested v ≡ all_passed) (doubles : Doubles v) where
  -- box i is one of the field, and its entry's centre is finite
  entry_held : (i : ℕ) → In i (run (λ n. n) 0 (box_count v)) → PointOf Held (centre_of (wide_at v i))
  unfolding wide_at box_at
  entry_held i k =
      let l = numbers_below (box_count v) i k in
      let each = doubles.each in
      let D : DoubleBox (box_at v i) = record {
        min = record { x = each (4 * i) (omega arith); y = each (4 * i + 1) (omega arith) };
        max = record { x = each (4 * i + 2) (omega arith); y = each (4 * i + 3) (omega arith) };
      } in
      centre_held (double_field D (fits_in_field (box_at v i) (passed_fits v passed i l)))

  -- a list of `f64`s that passes the tests
  pub builds_index : (t : Tree) → BuildsIndex v t → SameTree (ascended t) (index_of v)
  unfolding index_of
  builds_index t b = builds_same (wide_at v) (λ i. centre_of (wide_at v i)) (listed_number v passed) entry_held b

-- THE CALL: accepted, over a lent list of `f64`s
pub built_as_rust : (v : List Float) (B : IndexBuffer) → build_tested v B ≡ all_passed → Doubles v → BuiltAsRust v B
unfolding build_outcome build_tested
built_as_rust v B passed doubles =
    let o : Outcome (Answer TreeSize) IndexBuffer = record { answer = Ok (size_of (index_of v)); lent = holding (index_of v) B } in
    let left = given_passed passed o (λ r. record { answer = Err r; lent = B }) in
    let some = builds_some (wide_at v) (λ i. centre_of (wide_at v i)) (run (λ i. i) 0 (box_count v)) in
    record {
      answer = ap (λ (o : Outcome (Answer TreeSize) IndexBuffer). o.answer) left;
      lent = ap (λ (o : Outcome (Answer TreeSize) IndexBuffer). o.lent) left;
      same = builds_index v (refusing_passed (boxes_tested v) ShortBuffer (short_buffer B) passed).0 doubles;
      some = (some.tree, some.builds);
    }
