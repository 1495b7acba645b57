-- A list with some members left out, in the same order. Assumes nothing.
use mathlib.Core.List.{List, [], ◌∷◌, ◌++◌}
use Prim.Native.Nat.{ℕ, ◌≤◌}
use native.Mathlib.Omega.{arith}
use lib.ListN.{length}
use Rattle.lists.specs.Lists.{times, In, Sublist}
use Rattle.lists.specs.Lists.Sublist.{ended, stays, omitted}

module _ {A : Type 0} where
  -- none left out, and all
  pub sublist_self : (xs : List A) → Sublist xs xs
  sublist_self [] = ended
  sublist_self (x ∷ xs) = stays (sublist_self xs)

  pub sublist_none : (ys : List A) → Sublist [] ys
  sublist_none [] = ended
  sublist_none (y ∷ ys) = omitted (sublist_none ys)

  -- one list after another
  pub sublist_append : {xs ys us vs : List A} → Sublist xs ys → Sublist us vs → Sublist (xs ++ us) (ys ++ vs)
  sublist_append ended s = s
  sublist_append (stays r) s = stays (sublist_append r s)
  sublist_append (omitted r) s = omitted (sublist_append r s)

  -- no longer
  pub sublist_length : {xs ys : List A} → Sublist xs ys → length xs ≤ length ys
  sublist_length ended = omega arith
  sublist_length (stays r) = let l = sublist_length r in omega arith
  sublist_length (omitted r) = let l = sublist_length r in omega arith

-- a number occurs no more often
pub sublist_times : (i : ℕ) {xs ys : List ℕ} → Sublist xs ys → times i xs ≤ times i ys
unfolding times
sublist_times i ended = omega arith
sublist_times i (stays {x = x} r) = let l = sublist_times i r in omega arith
sublist_times i (omitted {y = y} r) = let l = sublist_times i r in omega arith

-- a member that is not left out is one of the whole list
pub sublist_in : (i : ℕ) {xs ys : List ℕ} → Sublist xs ys → In i xs → In i ys
sublist_in i r h = let l = sublist_times i r in omega arith
