-- The outlines that two lists are, what a set that passes the tests has, that its outlines pass the tests of an outline, and their boxes those of boxes. Assumes nothing.
use mathlib.Core.Path.{◌≡◌, refl, sym, ap, subst, ◌∙◌}
use mathlib.Core.Bool.{Bool, true, false, not}
use mathlib.Core.List.{List, [], flat_map}
use Prim.Native.Nat.{ℕ, zero, suc, ◌+◌, ◌-◌, ◌*◌, ◌%◌, ◌≤◌, ◌<◌}
use native.Mathlib.Nat.{add-zero, add-suc}
use native.Mathlib.Numerals.{add-one}
use native.Mathlib.Omega.{arith}
use borrow.Author.Tests.{ltb-true, ltb-false, eqb-true, eqb-false, le-ltb, eq-eqb, ne_eqb, not-false}
use lib.Dec.{T, eqb, ltb}
use lib.ListN.{length, get_or, take, drop, length-take, length-drop, get_or-eq_default}
use lib.Seq.{ext_get_or, get_or-take, get_or-drop}
use lib.Ieee.{Float, nan, binary64, fits}
use Rattle.boundary.specs.declared.Bounds.{Bounds}
use Rattle.boundary.specs.Boxes.{FieldValue, FieldBox}
use Rattle.lists.specs.Lists.{run, any}
use Rattle.boundary.specs.Outline.{count}
use Rattle.lists.proofs.FoldLaws.{any_at_lem, or_none, none_of}
use Rattle.accept.specs.Refusals.{Test, all_passed, not_finite, outside_field, equal_neighbours, zero_area, negative_area, outline_tested}
use Rattle.accept.proofs.TestLaws.{Shape, tested, refusing_passed}
use Rattle.boxes.specs.BoxLists.{box_count, box_at, box_numbers, boxes_of}
use Rattle.boundary.specs.Boxes.{box_fits}
use Rattle.index.specs.Answers.{boxes_tested}
use Rattle.lists.proofs.StoreLaws.{flat_length}
use Rattle.lists.proofs.RunLaws.{length_run, run_at}
use Rattle.boxes.proofs.EntryLaws.{box_as_given}
use Rattle.number.specs.Exact.{Doubles}
use Rattle.set.specs.Set.{Outline, start_of, outline_at, outlines_of, outline_in, outline_box, set_box, set_boxes, Fit, Fitting, DoubleSet}
use Rattle.set.specs.Tests.{adds_up, any_many, over_size, lists_tested, outlines_tested, set_tested}
use Rattle.set.proofs.BoundsLaws.{InField, bounds_spanned, spanned_box, spanned_fits}
use Rattle.boundary.proofs.FieldLaws.{number_in_field}

-- ---- how many vertices stand before an outline
module _ (cs : List ℕ) where
  pub start_next : (k : ℕ) → start_of cs (k + 1) ≡ start_of cs k + get_or cs k 0
  unfolding start_of
  start_next k = rw add-one

  pub start_up : (j k : ℕ) → start_of cs j ≤ start_of cs (j + k)
  unfolding start_of
  start_up j zero = rw (add-zero j) (omega arith)
  start_up j (suc k) = let h = start_up j k in rw (add-suc j k) (omega arith)

  -- an outline ends where all end, or before
  pub start_within : (k : ℕ) → k < length cs → start_of cs k + get_or cs k 0 ≤ start_of cs (length cs)
  start_within k l =
      let e : k + 1 + (length cs - (k + 1)) ≡ length cs = omega arith in
      let h = rw e at (start_up (k + 1) (length cs - (k + 1))) in
      let n = start_next k in
      omega arith

  -- where a count is more than what is left of n, all make more
  pub adds_over : (n left k : ℕ) → k < length cs → left < get_or cs k 0 → start_of cs k + left ≡ n → eqb (start_of cs (length cs)) n ≡ false
  adds_over n left k l h e = let w = start_within k l in ne_eqb (start_of cs (length cs)) n (λ z. omega arith)

  -- where nothing or more is left of n, all add up to n or not
  pub adds_all : (n left k : ℕ) → k ≤ length cs → length cs ≤ k → start_of cs k + left ≡ n → eqb left 0 ≡ eqb (start_of cs (length cs)) n
  adds_all n left k h l e = let z : k ≡ length cs = omega arith in rw (← z) (go left e)
    where
      go : (left : ℕ) → start_of cs k + left ≡ n → eqb left 0 ≡ eqb (start_of cs k) n
      go zero e = sym (eq-eqb (start_of cs k) n (omega arith))
      go (suc left) e = ne_eqb (suc left) 0 (λ z. omega arith) ∙ sym (ne_eqb (start_of cs k) n (λ z. omega arith))

-- ---- an outline as the part of the list from `at` to `end`
module _ (v : List Float) (cs : List ℕ) where
  pub part_within : 2 * start_of cs (length cs) ≤ length v → (k : ℕ) → k < length cs → 2 * start_of cs k + 2 * get_or cs k 0 ≤ length v
  part_within w k l = let h = start_within cs k l in omega arith

  pub part_is : (k at end : ℕ) → at ≡ 2 * start_of cs k → end ≡ at + 2 * get_or cs k 0 → take (end - at) (drop at v) ≡ outline_at v cs k
  unfolding outline_at
  part_is k at end e f = let z : end - at ≡ 2 * get_or cs k 0 = omega arith in rw (z, e)

-- ---- the list of outlines
pub outlines_length : (v : List Float) (cs : List ℕ) → length (outlines_of v cs) ≡ length cs
unfolding outlines_of
outlines_length v cs = length_run (outline_at v cs) 0 (length cs)

-- outline k of the list is the part of v; past the last, both are empty
pub outline_is : (v : List Float) (cs : List ℕ) (k : ℕ) → outline_in (outlines_of v cs) k ≡ outline_at v cs k
unfolding outlines_of outline_at
outline_is v cs k = go (ltb k (length cs)) refl
  where
    go : (b : Bool) → ltb k (length cs) ≡ b → outline_in (outlines_of v cs) k ≡ outline_at v cs k
    go true e = let z : 0 + k ≡ k = omega arith in run_at (outline_at v cs) 0 (length cs) k [] (ltb-true k (length cs) e) ∙ ap (outline_at v cs) z
    go false e =
        let h = ltb-false k (length cs) e in
        let n = length_run (outline_at v cs) 0 (length cs) in
        rw (get_or-eq_default cs 0 {n = k} h) (get_or-eq_default (run (outline_at v cs) 0 (length cs)) [] {n = k} (omega arith))

pub outline_past : (os : List Outline) (k : ℕ) → length os ≤ k → outline_in os k ≡ []
outline_past os k h = get_or-eq_default os [] {n = k} h

-- ---- what passing the tests tells
even_of : (n : ℕ) → (n % 2 ≡ 1 → ⊥) → n % 2 ≡ 0
even_of n h = omega arith

-- what no outline of a set that passes has
pub record Passing (os : List Outline) : Type 0 where
  pub finite : any not_finite os ≡ false
  pub in_field : any outside_field os ≡ false
  pub apart : any equal_neighbours os ≡ false
  pub nonzero : any zero_area os ≡ false
  pub positive : any negative_area os ≡ false

outlines_passed : (os : List Outline) (t : Test) → outlines_tested os t ≡ all_passed → (t ≡ all_passed) × Passing os
unfolding outlines_tested
outlines_passed os t e =
    let t9 = refusing_passed _ _ _ e in
    let t8 = refusing_passed _ _ _ t9.0 in
    let t7 = refusing_passed _ _ _ t8.0 in
    let t6 = refusing_passed _ _ _ t7.0 in
    let t5 = refusing_passed _ _ _ t6.0 in
    (t5.0, record { finite = t5.1; in_field = t6.1; apart = t7.1; nonzero = t8.1; positive = t9.1 })

pub passing : (v : List Float) (cs : List ℕ) → set_tested v cs ≡ all_passed → Passing (outlines_of v cs)
unfolding set_tested
passing v cs e = (outlines_passed (outlines_of v cs) (lists_tested v cs) e).1

-- lists that pass
pub lists_fit : (v : List Float) (cs : List ℕ) → lists_tested v cs ≡ all_passed → Fit v cs
unfolding lists_tested
lists_fit v cs e =
    let t4 = refusing_passed _ _ _ e in
    let t3 = refusing_passed _ _ _ t4.0 in
    let t2 = refusing_passed _ _ _ t3.0 in
    let t1 = refusing_passed _ _ _ t2.0 in
    let few = or_none (any_many cs) (over_size v cs) t4.1 in
    let size = or_none (ltb 1024 (length cs)) (ltb 65536 (count v)) few.1 in
    record {
      size = ltb-false 1024 (length cs) size.0;
      even = even_of (length v) (eqb-false (length v % 2) 1 t1.1);
      total = eqb-true (start_of cs (length cs)) (count v) (not-false (adds_up v cs) t2.1);
      few = ltb-false 65536 (count v) size.1;
      least = λ k l. ltb-false (get_or cs k 0) 3 (any_at_lem (λ n. ltb n 3) 0 cs k l t3.1);
      most = λ k l. ltb-false 4096 (get_or cs k 0) (any_at_lem (λ n. ltb 4096 n) 0 cs k l few.0);
    }

pub passed_fit : (v : List Float) (cs : List ℕ) → set_tested v cs ≡ all_passed → Fit v cs
unfolding set_tested
passed_fit v cs e = lists_fit v cs (outlines_passed (outlines_of v cs) (lists_tested v cs) e).0

pub fit_within : (v : List Float) (cs : List ℕ) → Fit v cs → 2 * start_of cs (length cs) ≤ length v
fit_within v cs f = let t = f.total in omega arith

-- ---- the outlines of such lists
module _ (v : List Float) (cs : List ℕ) (fit : Fit v cs) (k : ℕ) (l : k < length cs) where
  pub outline_length : length (outline_at v cs k) ≡ 2 * get_or cs k 0
  unfolding outline_at
  outline_length =
      let a = length-take (2 * get_or cs k 0) (drop (2 * start_of cs k) v) in
      let b = length-drop (2 * start_of cs k) v in
      let h = part_within v cs (fit_within v cs fit) k l in
      omega arith

  pub outline_count : count (outline_at v cs k) ≡ get_or cs k 0
  outline_count = let h = outline_length in omega arith

  -- it has vertices
  outline_some : 0 < count (outline_at v cs k)
  outline_some = let n = outline_count in let h = fit.least k l in omega arith

  -- its numbers are the list's
  outline_number : (i : ℕ) (d : Float) → i < length (outline_at v cs k) → get_or (outline_at v cs k) i d ≡ get_or v (2 * start_of cs k + i) d
  unfolding outline_at
  outline_number i d h =
      let n = outline_length in
      get_or-take (2 * get_or cs k 0) (drop (2 * start_of cs k) v) i d (omega arith) ∙ get_or-drop (2 * start_of cs k) v i d

  outline_doubles : Doubles v → Doubles (outline_at v cs k)
  outline_doubles held = record {
    each = λ i m.
        let n = outline_length in
        let w = part_within v cs (fit_within v cs fit) k l in
        subst (λ (x : Float). T (fits binary64 x)) (sym (outline_number i nan m)) (held.each (2 * start_of cs k + i) (omega arith));
  }

module _ (v : List Float) (cs : List ℕ) where
  -- where the lists are `f64`s, the outlines are
  pub doubles_outlines : Fit v cs → Doubles v → DoubleSet (outlines_of v cs)
  doubles_outlines fit held k l = let n = outlines_length v cs in rw (outline_is v cs k) (outline_doubles v cs fit k (omega arith) held)

  -- THE OUTLINES of an accepted set
  pub passed_fitting : set_tested v cs ≡ all_passed → Fitting (outlines_of v cs)
  passed_fitting e =
      let n = outlines_length v cs in
      let f = passed_fit v cs e in
      let s = f.size in
      record { size = omega arith; some = λ k l. rw (outline_is v cs k) (outline_some v cs f k (omega arith)); in_field = (passing v cs e).in_field }

-- ---- an outline of an accepted set passes the tests of an outline
module _ (v : List Float) (cs : List ℕ) (passed : set_tested v cs ≡ all_passed) (k : ℕ) (l : k < length (outlines_of v cs)) where
  abbrev o : Outline
  o = outline_in (outlines_of v cs) k

  -- what no outline fails this one does not
  not_failed : (P : Outline → Bool) → any P (outlines_of v cs) ≡ false → P o ≡ false
  not_failed P h = any_at_lem P [] (outlines_of v cs) k l h

  -- its count is even, and from 3 to 4,096 vertices
  counted : (length o ≡ 2 * get_or cs k 0) × (3 ≤ get_or cs k 0) × (get_or cs k 0 ≤ 4096)
  counted =
      let n = outlines_length v cs in
      let fit = passed_fit v cs passed in
      let m : k < length cs = omega arith in
      (ap length (outline_is v cs k) ∙ outline_length v cs fit k m, fit.least k m, fit.most k m)

  pub outline_passes : outline_tested (outline_in (outlines_of v cs) k) ≡ all_passed
  unfolding outline_tested
  outline_passes =
      let t = passing v cs passed in
      let n = counted.0 in
      let three = counted.1 in
      let most = counted.2 in
      let s : Shape o = record {
        even = ne_eqb (length o % 2) 1 (λ e. omega arith);
        enough = le-ltb (count o) 3 (omega arith);
        few = le-ltb 4096 (count o) (omega arith);
        all_finite = not_failed not_finite t.finite;
        all_in_field = not_failed outside_field t.in_field;
        apart = not_failed equal_neighbours t.apart;
        nonzero = not_failed zero_area t.nonzero;
      } in
      rw (tested s, not_failed negative_area t.positive)

-- ---- the boxes of a set
flat_of : {A B : Type 0} (f : B → List A) (h : ℕ → B) (i n : ℕ) {C : Type 0} (g : ℕ → C) (b : C → B) → ((j : ℕ) → b (g j) ≡ h j) → flat_map (λ c. f (b c)) (run g i n) ≡ flat_map f (run h i n)
unfolding flat_map run
flat_of f h i zero g b e = refl
flat_of f h i (suc n) g b e = rw (e i, flat_of f h (suc i) n g b e)

-- a list is the run of its members
run_members : {A : Type 0} (d : A) (xs : List A) → run (λ k. get_or xs k d) 0 (length xs) ≡ xs
run_members d xs =
    let n = length_run (λ k. get_or xs k d) 0 (length xs) in
    ext_get_or d (run (λ k. get_or xs k d) 0 (length xs)) xs n
    (λ i h. let l : i < length xs = rw n at h in let z : 0 + i ≡ i = omega arith in run_at (λ k. get_or xs k d) 0 (length xs) i d l ∙ ap (λ (k : ℕ). get_or xs k d) z)

module _ (os : List Outline) where
  boxes_flat : set_boxes os ≡ flat_map box_numbers (run (set_box os) 0 (length os))
  unfolding set_boxes
  boxes_flat = ap (flat_map (λ o. box_numbers (outline_box o))) (sym (run_members [] os)) ∙ flat_of box_numbers (set_box os) 0 (length os) (outline_in os) outline_box (λ j. refl)

  pub boxes_length : length (set_boxes os) ≡ 4 * length os
  unfolding set_boxes
  boxes_length = flat_length (λ o. box_numbers (outline_box o)) 4 (λ _. refl) os

  pub box_at_set : (k : ℕ) → k < length os → box_at (set_boxes os) k ≡ set_box os k
  box_at_set k l = ap (λ (s : List Float). box_at s k) boxes_flat ∙ box_as_given (set_box os) (length os) k l

  module _ (fit : Fitting os) where
    pub outline_in_field : (k : ℕ) → k < length os → outside_field (outline_in os k) ≡ false
    outline_in_field k l = any_at_lem outside_field [] os k l fit.in_field

    outline_number_in_field : (k : ℕ) → k < length os → (i : ℕ) → i < length (outline_in os k) → InField (get_or (outline_in os k) i nan)
    outline_number_in_field k l i m = subst T (sym (number_in_field (outline_in os k) (outline_in_field k l) i m)) tt

    box_fits_lem : (k : ℕ) → k < length os → box_fits (set_box os k) ≡ true
    box_fits_lem k l = spanned_fits InField (λ x f. f) (set_box os k) (bounds_spanned InField (λ x f. f) (outline_in os k) (fit.some k l) (outline_number_in_field k l))

    no_unfit : any (λ b. not (box_fits b)) (boxes_of (set_boxes os)) ≡ false
    unfolding boxes_of
    no_unfit =
        let n = boxes_length in
        let r = length_run (box_at (set_boxes os)) 0 (box_count (set_boxes os)) in
        none_of (λ b. not (box_fits b)) (box_at (set_boxes os) 0) (run (box_at (set_boxes os)) 0 (box_count (set_boxes os))) (λ i l. unfit i (omega arith) (omega arith))
      where
        unfit : (i : ℕ) → i < length os → i < box_count (set_boxes os) → not (box_fits (get_or (run (box_at (set_boxes os)) 0 (box_count (set_boxes os))) i (box_at (set_boxes os) 0))) ≡ false
        unfit i l m =
            let z : 0 + i ≡ i = omega arith in
            ap (λ (b : Bounds). not (box_fits b)) (run_at (box_at (set_boxes os)) 0 (box_count (set_boxes os)) i (box_at (set_boxes os) 0) m ∙ ap (box_at (set_boxes os)) z ∙ box_at_set i l) ∙ ap not (box_fits_lem i l)

    -- the boxes pass tests 4 and 11
    pub boxes_tested_lem : boxes_tested (set_boxes os) ≡ all_passed
    unfolding boxes_tested
    boxes_tested_lem =
        let n = boxes_length in
        let s = fit.size in
        rw (le-ltb 4096 (length (set_boxes os)) (omega arith), eq-eqb (length (set_boxes os) % 4) 0 (omega arith), no_unfit)

    -- ---- where the numbers are `f64`s
    module _ (held : DoubleSet os) (k : ℕ) (l : k < length os) where
      pub outline_numbers : (i : ℕ) → i < length (outline_in os k) → FieldValue (get_or (outline_in os k) i nan)
      outline_numbers i m = record { fits = (held k l).each i m; in_field = outline_number_in_field k l i m }

      pub box_field : FieldBox (set_box os k)
      box_field = spanned_box FieldValue (λ x f. f.in_field) (set_box os k) (bounds_spanned FieldValue (λ x f. f.in_field) (outline_in os k) (fit.some k l) outline_numbers)
