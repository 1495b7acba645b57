-- What sorting keeps: the length, and how often each number occurs. Assumes nothing.
use mathlib.Core.Path.{◌≡◌, refl, ap, ◌∙◌}
use mathlib.Core.Bool.{Bool, true, false, cond}
use mathlib.Core.List.{List, [], ◌∷◌}
use Prim.Native.Nat.{ℕ, suc, ◌+◌}
use native.Mathlib.Omega.{arith}
use lib.Dec.{eqb}
use lib.ListN.{length}
use Rattle.lists.specs.Lists.{times}
use Rattle.sorts.specs.Sort.{insert, sort}

module _ (le : ℕ → ℕ → Bool) where
  length_insert : (x : ℕ) (ys : List ℕ) → length (insert le x ys) ≡ suc (length ys)
  unfolding insert
  length_insert x [] = refl
  length_insert x (y ∷ ys) = go (le x y) (length_insert x ys)
    where
      go : (b : Bool) → length (insert le x ys) ≡ suc (length ys) → length (cond b (x ∷ y ∷ ys) (y ∷ insert le x ys)) ≡ suc (suc (length ys))
      go true e = refl
      go false e = ap suc e

  pub length_sort : (xs : List ℕ) → length (sort le xs) ≡ length xs
  unfolding sort
  length_sort [] = refl
  length_sort (x ∷ xs) = length_insert x (sort le xs) ∙ ap suc (length_sort xs)

  times_insert : (i x : ℕ) (ys : List ℕ) → times i (insert le x ys) ≡ times i (x ∷ ys)
  unfolding insert times
  times_insert i x [] = refl
  times_insert i x (y ∷ ys) = go (le x y) (times_insert i x ys)
    where
      go : (b : Bool) → times i (insert le x ys) ≡ times i (x ∷ ys) → times i (cond b (x ∷ y ∷ ys) (y ∷ insert le x ys)) ≡ times i (x ∷ y ∷ ys)
      go true e = refl
      go false e = omega arith

  pub times_sort : (i : ℕ) (xs : List ℕ) → times i (sort le xs) ≡ times i xs
  unfolding sort times
  times_sort i [] = refl
  times_sort i (x ∷ xs) = times_insert i x (sort le xs) ∙ ap (λ (n : ℕ). cond (eqb x i) 1 0 + n) (times_sort i xs)
