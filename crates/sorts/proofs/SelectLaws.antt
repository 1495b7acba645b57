-- The parts that a selection leaves are, as sets, the halves by the sort: the order is total, so the members alone decide them. Assumes nothing.
use mathlib.Core.Path.{◌≡◌, refl, sym, ap, ap₂, ◌∙◌}
use mathlib.Core.Bool.{Bool, true, false, cond}
use mathlib.Core.List.{List, [], ◌∷◌, ◌++◌}
use Prim.Native.Nat.{ℕ, zero, suc, ◌+◌, ◌≤◌, ◌<◌}
use native.Mathlib.Omega.{arith}
use lib.Dec.{leb, eqb}
use lib.ListN.{length, take, drop, take-append-drop}
use lib.Seq.{take_at, drop_at, length-take-le}
use lib.Ieee.{Float}
use borrow.Author.Tests.{eqb-true, eq-eqb}
use Rattle.lists.specs.Lists.{Every, times, In}
use Rattle.sorts.specs.Sort.{insert, sort, halves, Sorted, Selected}
use Rattle.sorts.specs.Keys.{precedes}
use Rattle.lists.proofs.MemberLaws.{times_append}
use Rattle.sorts.proofs.SortLaws.{length_sort, times_sort}
use Rattle.sorts.proofs.Order.{goes_total, goes_trans, goes_antisym}
use Rattle.sorts.proofs.PartLaws.{sort_apart, sort_inside, sorted_sort, ascend_again}

-- ---- lists of the same members
-- what stands before x in the list, and what after it
record Found (x : ℕ) (ys : List ℕ) : Type 0 where
  before : List ℕ
  after : List ℕ
  whole : ys ≡ before ++ (x ∷ after)

found : (x : ℕ) (ys : List ℕ) → In x ys → Found x ys
unfolding times
found x [] h = absurd (omega arith)
found x (y ∷ ys) h = go (eqb y x) refl h (found x ys)
  where
    go : (b : Bool) → eqb y x ≡ b → 0 < cond b 1 0 + times x ys → (In x ys → Found x ys) → Found x (y ∷ ys)
    go true e k f = record { before = []; after = ys; whole = ap (λ (z : ℕ). z ∷ ys) (eqb-true y x e) }
    go false e k f =
        let r = f (omega arith) in
        record { before = y ∷ r.before; after = r.after; whole = ap (λ (l : List ℕ). y ∷ l) r.whole }

times_own : (x : ℕ) (xs : List ℕ) → times x (x ∷ xs) ≡ 1 + times x xs
unfolding times
times_own x xs = rw (eq-eqb x x refl)

none_in : (ys : List ℕ) → ((i : ℕ) → times i ys ≡ 0) → ys ≡ []
none_in [] e = refl
none_in (y ∷ ys) e = let h = times_own y ys in let z = e y in absurd (omega arith)

-- the members but x, taken out of two lists of the same members
without : (x : ℕ) (xs ys al bl : List ℕ) → ys ≡ al ++ (x ∷ bl) → ((i : ℕ) → times i ys ≡ times i (x ∷ xs)) → (i : ℕ) → times i (al ++ bl) ≡ times i xs
unfolding times
without x xs ys al bl w e i =
    let a = e i in
    let b = ap (times i) w in
    let c = times_append i al (x ∷ bl) in
    let d = times_append i al bl in
    omega arith

module _ (le : ℕ → ℕ → Bool)
    (total : (a b : ℕ) → le a b ≡ false → le b a ≡ true)
    (trans : (a b c : ℕ) → le a b ≡ true → le b c ≡ true → le a c ≡ true)
    (antisym : (a b : ℕ) → le a b ≡ true → le b a ≡ true → a ≡ b) where
  -- they are the same list once sorted
  pub sort_same : (xs ys : List ℕ) → ((i : ℕ) → times i ys ≡ times i xs) → sort le ys ≡ sort le xs
  unfolding sort times
  sort_same [] ys e = ap (sort le) (none_in ys e)
  sort_same (x ∷ xs) ys e =
      let f = found x ys (let o = times_own x xs in let h = e x in omega arith) in
      let al = f.before in
      let bl = f.after in
      ap (sort le) f.whole ∙ sort_inside le total trans antisym al x bl ∙ ap (insert le x) (sort_same xs (al ++ bl) (without x xs ys al bl f.whole e))

-- ---- a sorted list is parted at each place
each_drop : (P : ℕ → Type 0) (m : ℕ) (xs : List ℕ) → Every P xs → Every P (drop m xs)
unfolding Every
each_drop P zero xs e = e
each_drop P (suc m) [] e = tt
each_drop P (suc m) (x ∷ xs) e = each_drop P m xs e.1

sorted_parted : (le : ℕ → ℕ → Bool) (m : ℕ) (xs : List ℕ) → Sorted le xs → Every (λ a. Every (λ b. le a b ≡ true) (drop m xs)) (take m xs)
unfolding Every Sorted
sorted_parted le zero xs s = tt
sorted_parted le (suc m) [] s = tt
sorted_parted le (suc m) (x ∷ xs) s = (each_drop (λ b. le x b ≡ true) m xs s.0, sorted_parted le m xs s.1)

-- ---- by a key
module _ (key : ℕ → Float) where
  goes_same : (xs ys : List ℕ) → ((i : ℕ) → times i ys ≡ times i xs) → sort (precedes key) ys ≡ sort (precedes key) xs
  goes_same = sort_same (precedes key) (goes_total key) (goes_trans key) (goes_antisym key)

  -- what a selection of the first m leaves
  module _ (m : ℕ) (xs ys : List ℕ) (fit : m ≤ length xs) (s : Selected (precedes key) m xs ys) where
    sorted_parts : sort (precedes key) xs ≡ sort (precedes key) (take m ys) ++ sort (precedes key) (drop m ys)
    sorted_parts = sym (goes_same xs ys s.same) ∙ ap (sort (precedes key)) (sym (take-append-drop m ys)) ∙ sort_apart (precedes key) (take m ys) (drop m ys) s.parted

    first_length : length (sort (precedes key) (take m ys)) ≡ m
    first_length =
        let a = length_sort (precedes key) xs in
        let b = length_sort (precedes key) ys in
        let c = ap length (goes_same xs ys s.same) in
        length_sort (precedes key) (take m ys) ∙ length-take-le m ys (omega arith)

    -- its two parts, put in ascending order, are those of the sorted list
    pub selected_first : sort leb (take m ys) ≡ sort leb (take m (sort (precedes key) xs))
    selected_first = sym (ap (λ (l : List ℕ). sort leb (take m l)) sorted_parts ∙ ap (sort leb) (take_at (sort (precedes key) (take m ys)) (sort (precedes key) (drop m ys)) m first_length) ∙ ascend_again (precedes key) (take m ys))

    pub selected_rest : sort leb (drop m ys) ≡ sort leb (drop m (sort (precedes key) xs))
    selected_rest = sym (ap (λ (l : List ℕ). sort leb (drop m l)) sorted_parts ∙ ap (sort leb) (drop_at (sort (precedes key) (take m ys)) (sort (precedes key) (drop m ys)) m first_length) ∙ ascend_again (precedes key) (drop m ys))

    -- so the halves that the build is defined by are what the selection leaves
    pub selected_halves : sort leb (take m ys) ++ sort leb (drop m ys) ≡ halves (precedes key) m xs
    unfolding halves
    selected_halves = ap₂ (λ (l k : List ℕ). l ++ k) selected_first selected_rest

  -- a sort is a selection, so there is one of every list
  pub sort_selected : (m : ℕ) (xs : List ℕ) → Selected (precedes key) m xs (sort (precedes key) xs)
  sort_selected m xs = record {
    same = λ i. times_sort (precedes key) i xs;
    parted = sorted_parted (precedes key) m (sort (precedes key) xs) (sorted_sort (precedes key) (goes_total key) (goes_trans key) xs);
  }
