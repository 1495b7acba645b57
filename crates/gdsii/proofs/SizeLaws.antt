-- The sizes of sets of outlines: of one set after another, and of a set with one outline more. Assumes nothing.
use mathlib.Core.Path.{◌≡◌, refl, ap, ◌∙◌}
use mathlib.Core.List.{List, [], ◌∷◌, ◌++◌, flat_map, append-nil, map-append}
use Prim.Native.Nat.{ℕ, ◌+◌, ◌*◌}
use native.Mathlib.Omega.{arith}
use lib.IntN.{ℤ}
use lib.ListN.{length, length-append, length-map}
use Rattle.lists.proofs.StoreLaws.{flat_append}
use Rattle.boundary.specs.Outline.{count}
use Rattle.geometry.specs.Making.{made_of}
use Rattle.xy.specs.Outlines.{numbers_of, made_count}
use Rattle.xy.proofs.MakingLaws.{made_length}
use Rattle.gdsii.specs.Reading.{set_of, counts_of}

-- ---- one set after another
flat_one : {A B : Type 0} (f : A → List B) (x : A) → flat_map f (x ∷ []) ≡ f x
unfolding flat_map
flat_one f x = append-nil (f x)

flat_even : {A B : Type 0} (f : A → List B) (n : A → ℕ) → ((x : A) → length (f x) ≡ 2 * n x) → (xs : List A) → (k : ℕ) × (length (flat_map f xs) ≡ 2 * k)
unfolding flat_map
flat_even f n e [] = (0, refl)
flat_even f n e (x ∷ xs) =
    let r = flat_even f n e xs in
    let a = length-append (f x) (flat_map f xs) in
    let l = e x in
    (n x + r.0, let h = r.1 in omega arith)

pub set_append : (zss yss : List (List ℤ)) → set_of (zss ++ yss) ≡ set_of zss ++ set_of yss
unfolding set_of
set_append zss yss = flat_append (λ zs. made_of (numbers_of zs)) zss yss

pub counts_append : (zss yss : List (List ℤ)) → counts_of (zss ++ yss) ≡ counts_of zss ++ counts_of yss
unfolding counts_of
counts_append zss yss = map-append made_count zss yss

-- x then y of each vertex
pub set_even : (zss : List (List ℤ)) → length (set_of zss) ≡ 2 * count (set_of zss)
unfolding set_of
set_even zss = let h = (flat_even (λ zs. made_of (numbers_of zs)) made_count (λ zs. made_length (numbers_of zs)) zss).1 in omega arith

pub count_append : (zss yss : List (List ℤ)) → count (set_of (zss ++ yss)) ≡ count (set_of zss) + count (set_of yss)
count_append zss yss =
    let e = ap length (set_append zss yss) in
    let a = length-append (set_of zss) (set_of yss) in
    let h = set_even zss in
    let k = set_even yss in
    omega arith

pub length_counts : (zss : List (List ℤ)) → length (counts_of zss) ≡ length zss
unfolding counts_of
length_counts zss = length-map zss made_count

-- ---- one outline more
set_one : (zs : List ℤ) → set_of (zs ∷ []) ≡ made_of (numbers_of zs)
unfolding set_of
set_one zs = flat_one (λ zs. made_of (numbers_of zs)) zs

module _ (zss : List (List ℤ)) (zs : List ℤ) where
  pub set_more : set_of (zss ++ zs ∷ []) ≡ set_of zss ++ made_of (numbers_of zs)
  set_more = set_append zss (zs ∷ []) ∙ ap (λ r. set_of zss ++ r) (set_one zs)

  pub counts_more : counts_of (zss ++ zs ∷ []) ≡ counts_of zss ++ made_count zs ∷ []
  unfolding counts_of
  counts_more = counts_append zss (zs ∷ [])

  pub count_more : count (set_of (zss ++ zs ∷ [])) ≡ count (set_of zss) + made_count zs
  count_more =
      let e = ap length set_more in
      let a = length-append (set_of zss) (made_of (numbers_of zs)) in
      let h = set_even zss in
      let k = made_length (numbers_of zs) in
      omega arith

  pub length_more : length (zss ++ zs ∷ []) ≡ length zss + 1
  length_more = length-append zss (zs ∷ [])
