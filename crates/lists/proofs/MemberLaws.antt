-- Lists related member by member, members of a list by how often they occur, and what holds of every member. Assumes nothing.
use mathlib.Core.Path.{◌≡◌, refl, ap, subst}
use mathlib.Core.Bool.{Bool, true, false, cond, ◌||◌}
use mathlib.Core.List.{List, [], ◌∷◌, ◌++◌, reverse, reverse_aux}
use Prim.Native.Nat.{ℕ, zero, suc, ◌+◌, ◌≤◌, ◌<◌}
use native.Mathlib.Omega.{arith}
use lib.Dec.{eqb, ltb}
use lib.ListN.{length, take, drop, take-append-drop}
use borrow.Author.Tests.{eq-eqb, ne_eqb, eqb-true, eqb-false, ltb-true, ltb-false}
use Rattle.lists.specs.Lists.{run, fold, any, times, In, Every, Each}
use Rattle.lists.specs.Lists.Each.{none, more}

module _ {A B : Type 0} {R : A → B → Type 0} where
  pub same_length : {xs : List A} {ys : List B} → Each R xs ys → length xs ≡ length ys
  same_length none = refl
  same_length (more h r) = ap suc (same_length r)

  pub take_each : {xs : List A} {ys : List B} (n : ℕ) → Each R xs ys → Each R (take n xs) (take n ys)
  take_each zero r = none
  take_each (suc n) none = none
  take_each (suc n) (more {x = x} {y = y} {xs = xs} {ys = ys} h r) = more h (take_each {xs = xs} {ys = ys} n r)

  pub drop_each : {xs : List A} {ys : List B} (n : ℕ) → Each R xs ys → Each R (drop n xs) (drop n ys)
  drop_each zero r = r
  drop_each (suc n) none = none
  drop_each (suc n) (more {x = x} {y = y} {xs = xs} {ys = ys} h r) = drop_each {xs = xs} {ys = ys} n r

  reverse_onto : {xs xs' : List A} {ys ys' : List B} → Each R xs ys → Each R xs' ys' → Each R (reverse_aux xs xs') (reverse_aux ys ys')
  reverse_onto none s = s
  reverse_onto (more h r) s = reverse_onto r (more h s)

  pub reverse_each : {xs : List A} {ys : List B} → Each R xs ys → Each R (reverse xs) (reverse ys)
  reverse_each r = reverse_onto r none

  -- tests that agree on related members
  module _ {p : A → Bool} {q : B → Bool} (agree : (x : A) (y : B) → R x y → p x ≡ q y) where
    each_from : {xs : List A} {ys : List B} (b : Bool) → Each R xs ys → fold (λ b x. b || p x) b xs ≡ fold (λ b y. b || q y) b ys
    unfolding fold
    each_from b none = refl
    each_from b (more {x = x} {y = y} h r) = rw (agree x y h) (each_from (b || q y) r)

    pub any_each : {xs : List A} {ys : List B} → Each R xs ys → any p xs ≡ any q ys
    unfolding any
    any_each r = each_from false r

-- ---- what holds of every member
module _ {A : Type 0} where
  pub each_all : {P Q : A → Type 0} (xs : List A) → ((x : A) → P x → Q x) → Every P xs → Every Q xs
  unfolding Every
  each_all [] f e = tt
  each_all (x ∷ xs) f e = (f x e.0, each_all xs f e.1)

  pub every_append : (P : A → Type 0) (xs ys : List A) → Every P xs → Every P ys → Every P (xs ++ ys)
  unfolding Every
  every_append P [] ys h k = k
  every_append P (x ∷ xs) ys h k = (h.0, every_append P xs ys h.1 k)

  pub every_both : (P Q : A → Type 0) (xs : List A) → Every P xs → Every Q xs → Every (λ x. P x × Q x) xs
  unfolding Every
  every_both P Q [] h k = tt
  every_both P Q (x ∷ xs) h k = ((h.0, k.0), every_both P Q xs h.1 k.1)

-- ---- how often a number occurs
pub times_append : (i : ℕ) (xs ys : List ℕ) → times i (xs ++ ys) ≡ times i xs + times i ys
unfolding times
times_append i [] ys = omega arith
times_append i (x ∷ xs) ys = let e = times_append i xs ys in omega arith

pub times_parts : (i m : ℕ) (xs : List ℕ) → times i (take m xs) + times i (drop m xs) ≡ times i xs
times_parts i m xs = let e = times_append i (take m xs) (drop m xs) in let f = ap (times i) (take-append-drop m xs) in omega arith

-- in the numbers j, j + 1, ..: k of them
module _ (i : ℕ) where
  times_below : (j k : ℕ) → i < j → times i (run (λ n. n) j k) ≡ 0
  unfolding run times
  times_below j zero h = refl
  times_below j (suc k) h = let n = times_below (suc j) k (omega arith) in rw (ne_eqb j i (λ e. omega arith)) (omega arith)

  pub times_past : (j k : ℕ) → j + k ≤ i → times i (run (λ n. n) j k) ≡ 0
  unfolding run times
  times_past j zero h = refl
  times_past j (suc k) h = let n = times_past (suc j) k (omega arith) in rw (ne_eqb j i (λ e. omega arith)) (omega arith)

  pub times_within : (j k : ℕ) → j ≤ i → i < j + k → times i (run (λ n. n) j k) ≡ 1
  unfolding run times
  times_within j zero h l = absurd (omega arith)
  times_within j (suc k) h l = go (eqb j i) refl (times_within (suc j) k)
    where
      lt_of : (j i : ℕ) → j ≤ i → (j ≡ i → ⊥) → suc j ≤ i
      lt_of j i h n = omega arith

      go : (b : Bool) → eqb j i ≡ b → (suc j ≤ i → i < suc j + k → times i (run (λ n. n) (suc j) k) ≡ 1) → cond b 1 0 + times i (run (λ n. n) (suc j) k) ≡ 1
      go true e f = let z : j ≡ i = eqb-true j i e in let n = times_below (suc j) k (omega arith) in omega arith
      go false e f = let n = f (lt_of j i h (eqb-false j i e)) (omega arith) in omega arith

-- the numbers up to k are below it
pub numbers_below : (k i : ℕ) → In i (run (λ n. n) 0 k) → i < k
numbers_below k i h = go (ltb i k) refl
  where
    go : (b : Bool) → ltb i k ≡ b → i < k
    go true e = ltb-true i k e
    go false e = let l = ltb-false i k e in let z = times_past i 0 k (omega arith) in absurd (omega arith)

-- ---- members
-- what holds of the first and of each of the rest holds of each
pub in_cons : (P : ℕ → Type 0) (x : ℕ) (xs : List ℕ) → P x → ((i : ℕ) → In i xs → P i) → (i : ℕ) → In i (x ∷ xs) → P i
unfolding times
in_cons P x xs p ps i h = go (eqb x i) refl h
  where
    go : (b : Bool) → eqb x i ≡ b → 0 < cond b 1 0 + times i xs → P i
    go true e l = subst P (eqb-true x i e) p
    go false e l = ps i (omega arith)

pub in_first : (x : ℕ) (xs : List ℕ) → In x (x ∷ xs)
unfolding times
in_first x xs = rw (eq-eqb x x refl) (omega arith)

pub in_rest : (i x : ℕ) (xs : List ℕ) → In i xs → In i (x ∷ xs)
unfolding times
in_rest i x xs h = omega arith

-- what holds of each member by its number holds of every member
pub every_in : (P : ℕ → Type 0) (xs : List ℕ) → ((i : ℕ) → In i xs → P i) → Every P xs
unfolding Every
every_in P [] h = tt
every_in P (x ∷ xs) h = (h x (in_first x xs), every_in P xs (λ i k. h i (in_rest i x xs k)))

pub every_run : {A : Type 0} (P : A → Type 0) (g : ℕ → A) (i k : ℕ) → ((j : ℕ) → j < i + k → P (g j)) → Every P (run g i k)
unfolding Every run
every_run P g i zero h = tt
every_run P g i (suc k) h = (h i (omega arith), every_run P g (suc i) k (λ j l. h j (omega arith)))
