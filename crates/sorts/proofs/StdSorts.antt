-- What std's sorts leave of a list is the sorted list: it has the same members, and none stands before one that goes before it. Assumes nothing.
use Rattle.std.proofs.Common.{◌≡◌, refl, sym, ap, ◌∙◌, ℕ, suc, ◌<◌, List, [], ◌∷◌, Bool, true, false, not, cond, length, get_or, add-one, arith}
use Rattle.std.specs.List.{sum_by}
use Rattle.std.specs.List.Sorted.{IsPermutation, IsSortedBy, IsSorted}
use Rattle.std.specs.Cmp.{IsStrictWeakOrder}
use Rattle.std.specs.Ordering.{nat_cmp}
use Rattle.std.proofs.lemmas.List.Sums.{sum_by-cons}
use Rattle.std.proofs.lemmas.List.Sorted.{sum_by-IsPermutation, IsNonDecreasingBy-from_sort}
use mathlib.Core.Bool.{true≢false}
use lib.Dec.{leb, eqb}
use borrow.Author.Tests.{le-leb}
use Rattle.lists.specs.Lists.{times, Every}
use Rattle.lists.proofs.MemberLaws.{each_all}
use Rattle.sorts.specs.Sort.{sort, Sorted}
use Rattle.sorts.proofs.PartLaws.{sort_sorted, leb_total, leb_trans, leb_antisym}
use Rattle.sorts.proofs.SelectLaws.{sort_same}

-- the same members, as often
times_sum : (i : ℕ) (xs : List ℕ) → times i xs ≡ sum_by (λ x. cond (eqb x i) 1 0) xs
unfolding times
times_sum i [] = refl
times_sum i (x ∷ xs) = let e = times_sum i xs in let c = sum_by-cons (λ x. cond (eqb x i) 1 0) x xs in omega arith

times_permuted : (xs ys : List ℕ) → IsPermutation xs ys → (i : ℕ) → times i ys ≡ times i xs
times_permuted xs ys p i = times_sum i ys ∙ sum_by-IsPermutation _ xs ys p ∙ sym (times_sum i xs)

module _ (le : ℕ → ℕ → Bool)
    (total : (a b : ℕ) → le a b ≡ false → le b a ≡ true)
    (trans : (a b c : ℕ) → le a b ≡ true → le b c ≡ true → le a c ≡ true) where
  -- x goes before y, and is not y
  abbrev pub goes_first : ℕ → ℕ → Bool
  goes_first x y = not (le y x)

  goes : (b : Bool) → not b ≡ false → b ≡ true
  goes true e = refl
  goes false e = absurd (true≢false e)

  pub strict : IsStrictWeakOrder goes_first
  strict = record {
    one_way = λ x y h. one x y (le y x) refl h;
    chain = λ x y z h k. ap not (trans z y x (goes (le z y) k) (goes (le y x) h));
  }
    where
      one : (x y : ℕ) (b : Bool) → le y x ≡ b → not b ≡ true → not (le x y) ≡ false
      one x y true e h = absurd (true≢false (sym h))
      one x y false e h = ap not (total y x e)

  -- each member goes before the next
  rises : (xs : List ℕ) → ((k d : ℕ) → suc k < length xs → le (get_or xs k d) (get_or xs (suc k) d) ≡ true) → Sorted le xs
  unfolding Sorted Every
  rises [] h = tt
  rises (x ∷ []) h = (tt, tt)
  rises (x ∷ y ∷ ys) h =
      let s = rises (y ∷ ys) (λ k d l. h (suc k) d (omega arith)) in
      let first : le x y ≡ true = h 0 x (omega arith) in
      ((first, each_all ys (λ z k. trans x y z first k) s.0), s)

  module _ (antisym : (a b : ℕ) → le a b ≡ true → le b a ≡ true → a ≡ b) where
    sorted_as : (xs ys : List ℕ) → IsPermutation xs ys → Sorted le ys → ys ≡ sort le xs
    sorted_as xs ys p s = sym (sort_sorted le ys s) ∙ sort_same le total trans antisym xs ys (times_permuted xs ys p)

    pub sorted_by : (xs ys : List ℕ) → IsPermutation xs ys → IsSortedBy goes_first ys → ys ≡ sort le xs
    sorted_by xs ys p s = sorted_as xs ys p (rises ys (λ k d l. goes _ (rw add-one at (s k d (omega arith) (omega arith)))))

-- numbers in ascending order
pub ascended_by : (xs ys : List ℕ) → IsPermutation xs ys → IsSorted nat_cmp ys → ys ≡ sort leb xs
ascended_by xs ys p s =
    let up = IsNonDecreasingBy-from_sort (λ x. x) ys s in
    sorted_as leb leb_total leb_trans leb_antisym xs ys p (rises leb leb_total leb_trans ys (λ k d l. le-leb _ _ (up k (suc k) d (omega arith) l)))
