-- The set that accepted outlines are: its numbers are on the grid, its outlines are the made ones, and it passes tests 1 to 9. Assumes nothing.
use mathlib.Core.Path.{◌≡◌, refl, ap, ap₂, ◌∙◌}
use mathlib.Core.Bool.{Bool, false}
use mathlib.Core.List.{List, [], ◌∷◌, ◌++◌, map, flat_map}
use Prim.Native.Nat.{ℕ, zero, suc, ◌+◌, ◌*◌, ◌%◌}
use native.Mathlib.Omega.{arith}
use borrow.Author.Tests.{eq-eqb, ne_eqb, le-ltb}
use lib.Dec.{ltb}
use lib.IntN.{ℤ}
use lib.ListN.{length, take, drop, get_or, length-append}
use lib.Seq.{take_at, drop-append-add}
use lib.Ieee.{Float}
use Rattle.lists.specs.Lists.{any, Every, Each}
use Rattle.lists.specs.Lists.Each.{none, more}
use Rattle.lists.proofs.FoldLaws.{any_never, any_same}
use Rattle.lists.proofs.MemberLaws.{each_all, every_both}
use Rattle.lists.proofs.RunLaws.{run_later}
use Rattle.boundary.specs.Outline.{count}
use Rattle.accept.specs.declared.Refusal.TheVariants.{NegativeArea}
use Rattle.accept.specs.Refusals.{all_passed, ◌refusing◌when◌, not_finite, outside_field, equal_neighbours, zero_area, negative_area, shape_tested, outline_tested}
use Rattle.accept.proofs.TestLaws.{Shape, shape, outline_shape_passed, refusing_passed}
use Rattle.geometry.specs.Making.{kept, made_of}
use Rattle.grid.specs.Grid.{OutlineOn}
use Rattle.exact.specs.OneOutline.{MadeOn}
use Rattle.exact.proofs.Making.{made_on}
use Rattle.set.specs.Set.{Outline, start_of, outline_at, outlines_of}
use Rattle.set.specs.Tests.{lists_tested, outlines_tested, set_tested}
use Rattle.xy.specs.Outlines.{numbers_of, made_count}
use Rattle.xy.proofs.NumberLaws.{numbers_on_grid}
use Rattle.xy.proofs.MakingLaws.{made_length}
use Rattle.gdsii.specs.Reading.{set_of, counts_of}
use Rattle.gdsii.specs.Accepted.{WithinReach, Makes, AcceptedStream}
use Rattle.gdsii.proofs.PassedLaws.{within_near}
use Rattle.gdsii.proofs.SizeLaws.{set_even, length_counts}

-- ---- lists one after the other, and each one's count
-- where those after the first begin
start_first : (m : ℕ) (cs : List ℕ) (k : ℕ) → start_of (m ∷ cs) (suc k) ≡ m + start_of cs k
unfolding start_of
start_first m cs zero = omega arith
start_first m cs (suc k) = let e = start_first m cs k in omega arith

module _ {A : Type 0} (f : A → List Float) (n : A → ℕ) (size : (x : A) → length (f x) ≡ 2 * n x) where
  -- the counts add up
  start_all : (xs : List A) → 2 * start_of (map n xs) (length (map n xs)) ≡ length (flat_map f xs)
  unfolding start_of flat_map
  start_all [] = refl
  start_all (x ∷ xs) =
      let s = start_first (n x) (map n xs) (length (map n xs)) in
      let h = start_all xs in
      let a = length-append (f x) (flat_map f xs) in
      let l = size x in
      omega arith

  -- each is found from where it begins
  outline_first : (x : A) (xs : List A) → outline_at (f x ++ flat_map f xs) (n x ∷ map n xs) 0 ≡ f x
  unfolding outline_at
  outline_first x xs = take_at (f x) (flat_map f xs) (2 * n x) (size x)

  outline_later : (x : A) (xs : List A) (k : ℕ) → outline_at (f x ++ flat_map f xs) (n x ∷ map n xs) (suc k) ≡ outline_at (flat_map f xs) (map n xs) k
  unfolding outline_at
  outline_later x xs k =
      let r = flat_map f xs in
      let s = start_first (n x) (map n xs) k in
      let l = size x in
      let e : 2 * start_of (n x ∷ map n xs) (suc k) ≡ length (f x) + 2 * start_of (map n xs) k = omega arith in
      ap (take (2 * get_or (map n xs) k 0)) (ap (λ (j : ℕ). drop j (f x ++ r)) e ∙ drop-append-add (f x) r (2 * start_of (map n xs) k))

  outlines_are : (xs : List A) → outlines_of (flat_map f xs) (map n xs) ≡ map f xs
  unfolding outlines_of flat_map
  outlines_are [] = refl
  outlines_are (x ∷ xs) =
      let v = flat_map f (x ∷ xs) in
      let cs = map n (x ∷ xs) in
      ap₂ (λ (o : Outline) (os : List Outline). o ∷ os) (outline_first x xs)
      (run_later (outline_at v cs) (outline_at (flat_map f xs) (map n xs)) 0 (length (map n xs)) (λ k l. outline_later x xs k) ∙ outlines_are xs)

-- the outlines of the set
pub read_outlines : (zss : List (List ℤ)) → outlines_of (set_of zss) (counts_of zss) ≡ map (λ zs. made_of (numbers_of zs)) zss
unfolding set_of counts_of
read_outlines zss = outlines_are (λ zs. made_of (numbers_of zs)) made_count (λ zs. made_length (numbers_of zs)) zss

-- ---- on the grid
pub read_made : (zs : List ℤ) → WithinReach zs → Makes zs → MadeOn (numbers_of zs) (made_of (numbers_of zs))
read_made zs w m = made_on (numbers_on_grid zs (within_near zs w)) m

each_append : {A B : Type 0} {R : A → B → Type 0} {xs xs' : List A} {ys ys' : List B} → Each R xs ys → Each R xs' ys' → Each R (xs ++ xs') (ys ++ ys')
each_append none k = k
each_append (more h r) k = more h (each_append r k)

set_on_grid : (zss : List (List ℤ)) → Every WithinReach zss → Every Makes zss → OutlineOn (set_of zss)
unfolding set_of flat_map Every
set_on_grid [] w m = record { steps = []; on = none }
set_on_grid (zs ∷ zss) w m =
    let h = (read_made zs w.0 m.0).on in
    let r = set_on_grid zss w.1 m.1 in
    record { steps = h.steps ++ r.steps; on = each_append h.on r.on }

pub read_on_grid : {zss : List (List ℤ)} {s : List ℕ} → AcceptedStream zss s → OutlineOn (set_of zss)
read_on_grid {zss} a = set_on_grid zss a.within a.made

-- ---- tests 1 to 9
none_passes : {A B : Type 0} (p : B → Bool) (f : A → B) (xs : List A) → Every (λ x. p (f x) ≡ false) xs → any p (map f xs) ≡ false
unfolding Every
none_passes p f xs h = any_same p (λ x. false) (map f xs) (every_map xs h) ∙ any_never (map f xs)
  where
    every_map : (xs : List _) → Every (λ x. p (f x) ≡ false) xs → Every (λ y. p y ≡ false) (map f xs)
    every_map [] h = tt
    every_map (x ∷ xs) h = (h.0, every_map xs h.1)

positive : (o : Outline) → outline_tested o ≡ all_passed → negative_area o ≡ false
unfolding outline_tested
positive o e = (refusing_passed (shape_tested o) NegativeArea (negative_area o) e).1

module _ {zss : List (List ℤ)} {s : List ℕ} (a : AcceptedStream zss s) where
  abbrev v : List Float
  v = set_of zss

  abbrev cs : List ℕ
  cs = counts_of zss

  -- what no count of an outline that making accepts fails, and what no accepted outline does
  no_count_lem : (p : ℕ → Bool) → ((zs : List ℤ) → Makes zs → p (made_count zs) ≡ false) → any p cs ≡ false
  unfolding counts_of
  no_count_lem p h = none_passes p made_count zss (each_all zss h a.made)

  no_outline : (p : Outline → Bool) → ((o : Outline) → outline_tested o ≡ all_passed → p o ≡ false) → any p (outlines_of v cs) ≡ false
  no_outline p h =
      rw (read_outlines zss)
      (none_passes p (λ zs. made_of (numbers_of zs)) zss
      (each_all zss (λ zs k. h (made_of (numbers_of zs)) (read_made zs k.0 k.1).accepted) (every_both WithinReach Makes zss a.within a.made)))

  no_shape : (p : Outline → Bool) → ((o : Outline) → Shape o → p o ≡ false) → any p (outlines_of v cs) ≡ false
  no_shape p h = no_outline p (λ o e. h o (shape o (outline_shape_passed o e)))

  all_added : start_of cs (length cs) ≡ count v
  unfolding set_of counts_of
  all_added = let h = start_all (λ zs. made_of (numbers_of zs)) made_count (λ zs. made_length (numbers_of zs)) zss in omega arith

  -- 1 to 4
  lists_pass : lists_tested v cs ≡ all_passed
  unfolding lists_tested ◌refusing◌when◌
  lists_pass =
      let e = set_even zss in
      let n = length_counts zss in
      let o = a.outlines in
      rw (
        ne_eqb (length v % 2) 1 (λ (z : length v % 2 ≡ 1). omega arith),
        eq-eqb (start_of cs (length cs)) (count v) all_added,
        no_count_lem (λ k. ltb k 3) (λ zs m. (shape (kept (numbers_of zs)) m).enough),
        no_count_lem (λ k. ltb 4096 k) (λ zs m. (shape (kept (numbers_of zs)) m).few),
        le-ltb 1024 (length cs) (omega arith),
        le-ltb 65536 (count v) a.vertices,
      )

  -- and 5 to 9
  pub read_passes : set_tested v cs ≡ all_passed
  unfolding set_tested outlines_tested ◌refusing◌when◌
  read_passes = rw (
    lists_pass,
    no_shape not_finite (λ o s. s.all_finite),
    no_shape outside_field (λ o s. s.all_in_field),
    no_shape equal_neighbours (λ o s. s.apart),
    no_shape zero_area (λ o s. s.nonzero),
    no_outline negative_area positive,
  )
