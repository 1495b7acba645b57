-- The lists that hold the widened boxes and their centres give them back, for every number. Assumes nothing.
use mathlib.Core.Path.{◌≡◌, refl, sym, ap, ◌∙◌}
use mathlib.Core.Bool.{Bool, true, false}
use mathlib.Core.List.{List, [], ◌++◌, append-nil, flat_map}
use Prim.Native.Nat.{ℕ, ◌+◌, ◌*◌, ◌%◌, ◌≤◌, ◌<◌}
use native.Mathlib.Omega.{arith}
use lib.Dec.{ltb}
use lib.ListN.{length, get_or, get_or-append, get_or-eq_default}
use lib.Ieee.{Float, nan, add, mul}
use borrow.Author.Tests.{ltb-true, ltb-false}
use Rattle.boundary.specs.declared.Bounds.{Bounds}
use Rattle.boundary.specs.Boxes.{widened_of}
use Rattle.lists.specs.Lists.{run}
use Rattle.sorts.specs.Keys.{key_in}
use Rattle.boxes.specs.BoxLists.{box_count, box_at, box_numbers, wide_at, centre_of, point_in}
use Rattle.lists.proofs.StoreLaws.{flat_length, flat_at}
use Rattle.lists.proofs.RunLaws.{length_run, run_at}

-- a box of which no number is there
abbrev no_box : Bounds
no_box = record { min = record { x = nan; y = nan }; max = record { x = nan; y = nan } }

no_box_lem : (v : List Float) (i : ℕ) → length v ≤ 4 * i → box_at v i ≡ no_box
unfolding box_at
no_box_lem v i h =
    let at : (k : ℕ) → length v ≤ k → get_or v k nan ≡ nan = λ k l. get_or-eq_default v nan l in
    rw (at (4 * i) h, at (4 * i + 1) (omega arith), at (4 * i + 2) (omega arith), at (4 * i + 3) (omega arith))

-- box i of a list, whatever stands after it
pub box_front : (v rest : List Float) (i : ℕ) → 4 * i + 3 < length v → box_at (v ++ rest) i ≡ box_at v i
unfolding box_at
box_front v rest i h =
    let at : (k : ℕ) → k < length v → get_or (v ++ rest) k nan ≡ get_or v k nan = λ k l. get_or-append v rest nan k l in
    rw (at (4 * i) (omega arith), at (4 * i + 1) (omega arith), at (4 * i + 2) (omega arith), at (4 * i + 3) (omega arith))

no_wide : widened_of no_box ≡ no_box
unfolding widened_of
no_wide = refl

module _ (W : ℕ → Bounds) (n : ℕ) where
  -- the numbers of the boxes W 0, W 1, ..
  abbrev pub held : List Float
  held = flat_map box_numbers (run W 0 n)

  held_at : (i k : ℕ) → i < n → k < 4 → get_or held (4 * i + k) nan ≡ get_or (box_numbers (W i)) k nan
  held_at i k h l =
      let r : i < length (run W 0 n) = rw (length_run W 0 n) h in
      let z : 0 + i ≡ i = omega arith in
      sym (ap (λ (s : List Float). get_or s (4 * i + k) nan) (append-nil held)) ∙ flat_at box_numbers 4 (λ _. refl) (run W 0 n) [] i k nan no_box r l
      ∙ ap (λ (b : Bounds). get_or (box_numbers b) k nan) (run_at W 0 n i no_box h ∙ ap W z)

  pub box_as_given : (i : ℕ) → i < n → box_at held i ≡ W i
  unfolding box_at
  box_as_given i h =
      let z : 4 * i + 0 ≡ 4 * i = omega arith in
      let first = ap (λ (k : ℕ). get_or held k nan) (sym z) ∙ held_at i 0 h (omega arith) in
      rw (first, held_at i 1 h (omega arith), held_at i 2 h (omega arith), held_at i 3 h (omega arith))

-- the coordinate g 0, g 1, ..
key_held : (g : ℕ → Float) (n i : ℕ) → i < n → key_in (run g 0 n) i ≡ g i
key_held g n i h = let z : 0 + i ≡ i = omega arith in run_at g 0 n i nan h ∙ ap g z

key_past : (g : ℕ → Float) (n i : ℕ) → n ≤ i → key_in (run g 0 n) i ≡ nan
key_past g n i h = get_or-eq_default (run g 0 n) nan (rw (length_run g 0 n) h)

no_centre : centre_of no_box ≡ record { x = nan; y = nan }
unfolding centre_of add mul
no_centre = refl

module _ (v : List Float) (whole : length v % 4 ≡ 0) where
  abbrev x_of : ℕ → Float
  x_of i = (centre_of (wide_at v i)).x

  abbrev y_of : ℕ → Float
  y_of i = (centre_of (wide_at v i)).y

  past : (i : ℕ) → box_count v ≤ i → wide_at v i ≡ no_box
  unfolding wide_at
  past i h = ap widened_of (no_box_lem v i (omega arith)) ∙ no_wide

  pub wide_held : box_at (flat_map box_numbers (run (wide_at v) 0 (box_count v))) ≡ wide_at v
  wide_held = λ k i. here i k
    where
      go : (i : ℕ) (b : Bool) → ltb i (box_count v) ≡ b → box_at (held (wide_at v) (box_count v)) i ≡ wide_at v i
      go i true e = box_as_given (wide_at v) (box_count v) i (ltb-true i (box_count v) e)
      go i false e =
          let h : box_count v ≤ i = ltb-false i (box_count v) e in
          let l = flat_length box_numbers 4 (λ _. refl) (run (wide_at v) 0 (box_count v)) in
          let n = length_run (wide_at v) 0 (box_count v) in
          no_box_lem (held (wide_at v) (box_count v)) i (omega arith) ∙ sym (past i h)

      here : (i : ℕ) → box_at (held (wide_at v) (box_count v)) i ≡ wide_at v i
      here i = go i (ltb i (box_count v)) refl

  pub centres_held : point_in (run x_of 0 (box_count v)) (run y_of 0 (box_count v)) ≡ (λ i. centre_of (wide_at v i))
  centres_held = λ k i. here i k
    where
      go : (i : ℕ) (b : Bool) → ltb i (box_count v) ≡ b → point_in (run x_of 0 (box_count v)) (run y_of 0 (box_count v)) i ≡ centre_of (wide_at v i)
      go i true e =
          let h : i < box_count v = ltb-true i (box_count v) e in
          rw (key_held x_of (box_count v) i h, key_held y_of (box_count v) i h)
      go i false e =
          let h : box_count v ≤ i = ltb-false i (box_count v) e in
          rw (key_past x_of (box_count v) i h, key_past y_of (box_count v) i h) (sym (ap centre_of (past i h) ∙ no_centre))

      here : (i : ℕ) → point_in (run x_of 0 (box_count v)) (run y_of 0 (box_count v)) i ≡ centre_of (wide_at v i)
      here i = go i (ltb i (box_count v)) refl
