-- Sorting what was sorted by another order, sorting what is in order, and the halves that a pivot parts. Assumes nothing.
use mathlib.Core.Path.{◌≡◌, refl, sym, ap, ap₂, ◌∙◌}
use mathlib.Core.Bool.{Bool, true, false, not, cond, false≢true}
use mathlib.Core.List.{List, [], ◌∷◌, ◌++◌, append-nil}
use Prim.Native.Nat.{ℕ, zero, suc, ◌+◌, ◌-◌, ◌≤◌, ◌<◌}
use native.Mathlib.Numerals.{add-one}
use native.Mathlib.Omega.{arith}
use lib.Dec.{leb}
use lib.ListN.{length, get_or, set, take, drop, length-set, length-drop, drop_of_length-le}
use lib.Seq.{drop-cons, take-suc, take_all, take_at, drop_at, drop-drop, drop-set-lt, take-set-le, take-suc-set, length-take-le}
use lib.Ieee.{Float}
use borrow.Author.Tests.{le-leb, leb-true, leb-false}
use Rattle.lists.specs.Lists.{Every, run}
use Rattle.lists.proofs.MemberLaws.{each_all}
use Rattle.sorts.specs.Sort.{insert, sort, keep, others, Dealt, Sorted, halves}
use Rattle.std.specs.Int.{from_bool}
use Rattle.sorts.specs.Keys.{precedes_by, precedes, ahead}
use Rattle.sorts.proofs.Lists.{rest_of, whole_of}
use Rattle.sorts.proofs.SortLaws.{length_sort}
use Rattle.sorts.proofs.Order.{goes_total, goes_trans, goes_antisym, ahead_precedes}

-- ---- each member
pub each_keep : (P : ℕ → Type 0) (p : ℕ → Bool) (xs : List ℕ) → Every P xs → Every P (keep p xs)
unfolding Every keep
each_keep P p [] e = tt
each_keep P p (x ∷ xs) e = go (p x) (each_keep P p xs e.1)
  where
    go : (b : Bool) → Every P (keep p xs) → Every P (cond b (x ∷ keep p xs) (keep p xs))
    go true f = (e.0, f)
    go false f = f

-- what is kept passes
pub each_kept : (p : ℕ → Bool) (xs : List ℕ) → Every (λ x. p x ≡ true) (keep p xs)
unfolding Every keep
each_kept p [] = tt
each_kept p (x ∷ xs) = go (p x) refl (each_kept p xs)
  where
    go : (b : Bool) → p x ≡ b → Every (λ x. p x ≡ true) (keep p xs) → Every (λ x. p x ≡ true) (cond b (x ∷ keep p xs) (keep p xs))
    go true h f = (h, f)
    go false h f = f

module _ (le : ℕ → ℕ → Bool) where
  pub each_insert : (P : ℕ → Type 0) (x : ℕ) (ys : List ℕ) → P x → Every P ys → Every P (insert le x ys)
  unfolding Every insert
  each_insert P x [] p e = (p, tt)
  each_insert P x (y ∷ ys) p e = go (le x y) (each_insert P x ys p e.1)
    where
      go : (b : Bool) → Every P (insert le x ys) → Every P (cond b (x ∷ y ∷ ys) (y ∷ insert le x ys))
      go true f = (p, e)
      go false f = (e.0, f)

  pub each_sort : (P : ℕ → Type 0) (xs : List ℕ) → Every P xs → Every P (sort le xs)
  unfolding Every sort
  each_sort P [] e = tt
  each_sort P (x ∷ xs) e = each_insert P x (sort le xs) e.0 (each_sort P xs e.1)

  -- what goes before all of a second list is put into the first
  insert_front : (x : ℕ) (ss ts : List ℕ) → Every (λ t. le x t ≡ true) ts → insert le x (ss ++ ts) ≡ insert le x ss ++ ts
  unfolding insert Every
  insert_front x [] [] e = refl
  insert_front x [] (t ∷ ts) e = rw e.0
  insert_front x (s ∷ ss) ts e = go (le x s) (insert_front x ss ts e)
    where
      go : (b : Bool) → insert le x (ss ++ ts) ≡ insert le x ss ++ ts → cond b (x ∷ s ∷ (ss ++ ts)) (s ∷ insert le x (ss ++ ts)) ≡ cond b (x ∷ s ∷ ss) (s ∷ insert le x ss) ++ ts
      go true ih = refl
      go false ih = ap (λ (l : List ℕ). s ∷ l) ih

  -- a list none of whose members goes after one of a second
  pub sort_apart : (al bl : List ℕ) → Every (λ a. Every (λ b. le a b ≡ true) bl) al → sort le (al ++ bl) ≡ sort le al ++ sort le bl
  unfolding sort Every
  sort_apart [] bl e = refl
  sort_apart (a ∷ al) bl e = ap (insert le a) (sort_apart al bl e.1) ∙ insert_front a (sort le al) (sort le bl) (each_sort (λ b. le a b ≡ true) bl e.0)

  -- ---- what is in order
  pub sort_sorted : (xs : List ℕ) → Sorted le xs → sort le xs ≡ xs
  unfolding Sorted Every sort insert
  sort_sorted [] s = refl
  sort_sorted (x ∷ []) s = refl
  sort_sorted (x ∷ y ∷ ys) s = ap (insert le x) (sort_sorted (y ∷ ys) s.1) ∙ rw s.0.0

  pub sorted_keep : (p : ℕ → Bool) (xs : List ℕ) → Sorted le xs → Sorted le (keep p xs)
  unfolding Sorted keep
  sorted_keep p [] s = tt
  sorted_keep p (x ∷ xs) s = go (p x) (sorted_keep p xs s.1)
    where
      go : (b : Bool) → Sorted le (keep p xs) → Sorted le (cond b (x ∷ keep p xs) (keep p xs))
      go true f = (each_keep (λ y. le x y ≡ true) p xs s.0, f)
      go false f = f

-- numbers from j on ascend
pub run_ascends : (j k : ℕ) → Sorted leb (run (λ i. i) j k)
unfolding Sorted Every run
run_ascends j zero = tt
run_ascends j (suc k) = (above (suc j) k (omega arith), run_ascends (suc j) k)
  where
    above : (i k : ℕ) → j ≤ i → Every (λ y. leb j y ≡ true) (run (λ i. i) i k)
    above i zero h = tt
    above i (suc k) h = (le-leb j i h, above (suc i) k (omega arith))

-- ---- dealing: those that pass to one list, the others to the other
keep_last : (p : ℕ → Bool) (xs : List ℕ) (y : ℕ) → keep p (xs ++ (y ∷ [])) ≡ keep p xs ++ cond (p y) (y ∷ []) []
unfolding keep
keep_last p [] y = refl
keep_last p (x ∷ xs) y = go (p x) (keep_last p xs y)
  where
    go : (b : Bool) → keep p (xs ++ (y ∷ [])) ≡ keep p xs ++ cond (p y) (y ∷ []) []
        → cond b (x ∷ keep p (xs ++ (y ∷ []))) (keep p (xs ++ (y ∷ []))) ≡ cond b (x ∷ keep p xs) (keep p xs) ++ cond (p y) (y ∷ []) []
    go true ih = ap (λ (l : List ℕ). x ∷ l) ih
    go false ih = ih

pub dealt_none : (p : ℕ → Bool) (s t : List ℕ) → Dealt p s t s t 0 0
unfolding keep
dealt_none p s t = record { within = omega arith; fewer = omega arith; long = refl; room = refl; passed = refl; failed = refl; ahead = refl }

module _ (p : ℕ → Bool) (s₀ t₀ s t : List ℕ) (a i y : ℕ) (d : Dealt p s₀ t₀ s t a i) (h : i < length s) (fit : length s₀ ≤ length t₀) (ey : y ≡ get_or s i 0) where
  next_is : y ≡ get_or s₀ i 0
  next_is =
      let k : i < length s₀ = rw d.long at h in
      let e : get_or s i 0 ∷ drop (suc i) s ≡ get_or s₀ i 0 ∷ drop (suc i) s₀ = sym (drop-cons s i 0 h) ∙ d.ahead ∙ drop-cons s₀ i 0 k in
      ey ∙ ap (λ (l : List ℕ). get_or l 0 0) e

  one_more : (q : ℕ → Bool) → keep q (take (i + 1) s₀) ≡ keep q (take i s₀) ++ cond (q y) (y ∷ []) []
  one_more q =
      let k : i < length s₀ = rw d.long at h in
      rw (add-one, take-suc s₀ i 0 k, ← next_is) (keep_last q (take i s₀) y)

  still : drop (i + 1) (set s a y) ≡ drop (i + 1) s₀
  still = let f = d.fewer in rw (drop-set-lt (i + 1) s a y (omega arith)) (sym (drop-drop 1 i s) ∙ ap (drop 1) d.ahead ∙ drop-drop 1 i s₀)

  dealt_more : (b : Bool) → p y ≡ not b → (c : ℕ) → c ≡ cond b 0 1 → Dealt p s₀ t₀ (set s a y) (set t (i - a) y) (a + c) (i + 1)
  dealt_more false py c e =
      let f = d.fewer in let l = d.long in let r = d.room in
      let z : i + 1 - (a + c) ≡ i - a = omega arith in
      let w : a + c ≡ suc a = omega arith in
      record {
        within = omega arith;
        fewer = omega arith;
        long = rw length-set l;
        room = rw length-set r;
        passed = rw (w, take-suc-set s a y (omega arith), one_more p, py, d.passed);
        failed = rw (z, take-set-le (i - a) t (i - a) y (omega arith), one_more (λ x. not (p x)), py, d.failed) (sym (append-nil (others p (take i s₀))));
        ahead = still;
      }
  dealt_more true py c e =
      let f = d.fewer in let l = d.long in let r = d.room in
      let z : i + 1 - (a + c) ≡ suc (i - a) = omega arith in
      let w : a + c ≡ a = omega arith in
      record {
        within = omega arith;
        fewer = omega arith;
        long = rw length-set l;
        room = rw length-set r;
        passed = rw (w, take-set-le a s a y (omega arith), one_more p, py, d.passed) (sym (append-nil (keep p (take i s₀))));
        failed = rw (z, take-suc-set t (i - a) y (omega arith), one_more (λ x. not (p x)), py, d.failed);
        ahead = still;
      }

pub dealt_next : (key : ℕ → Float) (v : Float) (x : ℕ) (s₀ t₀ s t : List ℕ) (a i y : ℕ) → Dealt (ahead key v x) s₀ t₀ s t a i → i < length s → length s₀ ≤ length t₀ → y ≡ get_or s i 0
    → Dealt (ahead key v x) s₀ t₀ (set s a y) (set t (i - a) y) (a + from_bool (not (precedes_by v (key y) x y))) (i + 1)
dealt_next key v x s₀ t₀ s t a i y d h fit ey = dealt_more (ahead key v x) s₀ t₀ s t a i y d h fit ey (precedes_by v (key y) x y) refl (from_bool (not (precedes_by v (key y) x y))) (counted (precedes_by v (key y) x y))
  where
    counted : (b : Bool) → from_bool (not b) ≡ cond b 0 1
    counted true = refl
    counted false = refl

-- all dealt, and the others appended
pub dealt_all : (p : ℕ → Bool) (s₀ t₀ s t : List ℕ) (a : ℕ) → Dealt p s₀ t₀ s t a (length s₀) → (take a s ≡ keep p s₀) × (take (length s₀ - a) t ≡ others p s₀) × (a ≡ length (keep p s₀))
dealt_all p s₀ t₀ s t a d =
    let all = take_all (length s₀) s₀ (omega arith) in
    let one : take a s ≡ keep p s₀ = d.passed ∙ ap (keep p) all in
    let f = d.fewer in let l = d.long in
    (one, d.failed ∙ ap (others p) all, sym (length-take-le a s (omega arith)) ∙ ap length one)

pub parted_is : (p : ℕ → Bool) (s₀ t₀ s t Y : List ℕ) (a : ℕ) → Dealt p s₀ t₀ s t a (length s₀) → length s₀ ≤ length t₀
    → Y ≡ take (length s₀ - a) t ++ drop (length (take (length s₀ - a) t)) (take (length s - a) (drop a s))
    → (take a s ++ (Y ++ drop (length s - a) (drop a s)) ≡ keep p s₀ ++ others p s₀) × (a ≡ length (keep p s₀))
parted_is p s₀ t₀ s t Y a d fit e =
    let q = dealt_all p s₀ t₀ s t a d in
    let f = d.fewer in let l = d.long in let r = d.room in
    let k = length-drop a s in
    let n = length-take-le (length s₀ - a) t (omega arith) in
    let gone : drop (length (take (length s₀ - a) t)) (take (length s - a) (drop a s)) ≡ [] = drop_of_length-le (take (length s - a) (drop a s)) {i = length (take (length s₀ - a) t)} (let u = length-take-le (length s - a) (drop a s) (omega arith) in omega arith) in
    let past : drop (length s - a) (drop a s) ≡ [] = drop_of_length-le (drop a s) {i = length s - a} (omega arith) in
    let y : Y ≡ others p s₀ = e ∙ rw gone (append-nil (take (length s₀ - a) t) ∙ q.1) in
    (rw (y, past, q.0) (ap (λ (l : List ℕ). keep p s₀ ++ l) (append-nil (others p s₀))), q.2)

-- ---- a total order
module _ (le : ℕ → ℕ → Bool)
    (total : (a b : ℕ) → le a b ≡ false → le b a ≡ true)
    (trans : (a b c : ℕ) → le a b ≡ true → le b c ≡ true → le a c ≡ true) where
  sorted_insert : (x : ℕ) (ys : List ℕ) → Sorted le ys → Sorted le (insert le x ys)
  unfolding Sorted Every insert
  sorted_insert x [] s = (tt, tt)
  sorted_insert x (y ∷ ys) s = go (le x y) refl (sorted_insert x ys s.1)
    where
      go : (b : Bool) → le x y ≡ b → Sorted le (insert le x ys) → Sorted le (cond b (x ∷ y ∷ ys) (y ∷ insert le x ys))
      go true h f = ((h, each_all ys (λ z k. trans x y z h k) s.0), s)
      go false h f = (each_insert le (λ z. le y z ≡ true) x ys (total x y h) s.0, f)

  pub sorted_sort : (xs : List ℕ) → Sorted le (sort le xs)
  unfolding Sorted sort
  sorted_sort [] = tt
  sorted_sort (x ∷ xs) = sorted_insert x (sort le xs) (sorted_sort xs)

  module _ (antisym : (a b : ℕ) → le a b ≡ true → le b a ≡ true → a ≡ b) where
    -- two heads in either order
    two_heads : (x y : ℕ) (l : List ℕ) (c d : Bool) → le x y ≡ c → le y x ≡ d → cond c (x ∷ y ∷ l) (y ∷ x ∷ l) ≡ cond d (y ∷ x ∷ l) (x ∷ y ∷ l)
    two_heads x y l true true p q = rw (antisym x y p q)
    two_heads x y l true false p q = refl
    two_heads x y l false true p q = refl
    two_heads x y l false false p q = absurd (false≢true (sym q ∙ total x y p))

    insert_swap : (x y : ℕ) (l : List ℕ) → insert le x (insert le y l) ≡ insert le y (insert le x l)
    unfolding insert
    insert_swap x y [] = two_heads x y [] (le x y) (le y x) refl refl
    insert_swap x y (z ∷ zs) = go (le x z) (le y z) refl refl (insert_swap x y zs)
      where
        none : (a b : ℕ) → le a z ≡ true → le b z ≡ false → le b a ≡ false
        none a b p q = case (le b a) refl
          where
            case : (d : Bool) → le b a ≡ d → le b a ≡ false
            case true e = absurd (false≢true (sym q ∙ trans b a z e p))
            case false e = e

        go : (a b : Bool) → le x z ≡ a → le y z ≡ b → insert le x (insert le y zs) ≡ insert le y (insert le x zs)
            → insert le x (cond b (y ∷ z ∷ zs) (z ∷ insert le y zs)) ≡ insert le y (cond a (x ∷ z ∷ zs) (z ∷ insert le x zs))
        go true true p q ih = rw (p, q) (two_heads x y (z ∷ zs) (le x y) (le y x) refl refl)
        go true false p q ih = rw (p, none x y p q, q)
        go false true p q ih = rw (q, none y x q p, p)
        go false false p q ih = rw (p, q) (ap (λ (l : List ℕ). z ∷ l) ih)

    sort_insert : (g : ℕ → ℕ → Bool) (x : ℕ) (ys : List ℕ) → sort le (insert g x ys) ≡ insert le x (sort le ys)
    unfolding insert sort
    sort_insert g x [] = refl
    sort_insert g x (y ∷ ys) = go (g x y) (sort_insert g x ys)
      where
        go : (b : Bool) → sort le (insert g x ys) ≡ insert le x (sort le ys) → sort le (cond b (x ∷ y ∷ ys) (y ∷ insert g x ys)) ≡ insert le x (insert le y (sort le ys))
        go true ih = refl
        go false ih = ap (insert le y) ih ∙ insert_swap y x (sort le ys)

    -- sorting does not mind an earlier sort
    pub sort_again : (g : ℕ → ℕ → Bool) (xs : List ℕ) → sort le (sort g xs) ≡ sort le xs
    unfolding sort
    sort_again g [] = refl
    sort_again g (x ∷ xs) = sort_insert g x (sort g xs) ∙ ap (insert le x) (sort_again g xs)

    pub sort_inside : (al : List ℕ) (x : ℕ) (bl : List ℕ) → sort le (al ++ (x ∷ bl)) ≡ insert le x (sort le (al ++ bl))
    unfolding sort
    sort_inside [] x bl = refl
    sort_inside (a ∷ al) x bl = ap (insert le a) (sort_inside al x bl) ∙ insert_swap a x (sort le (al ++ bl))

    -- sorting does not mind an earlier parting
    pub sort_parted : (p : ℕ → Bool) (xs : List ℕ) → sort le (keep p xs ++ others p xs) ≡ sort le xs
    unfolding sort keep
    sort_parted p [] = refl
    sort_parted p (x ∷ xs) = go (p x) ∙ ap (insert le x) (sort_parted p xs)
      where
        go : (b : Bool) → sort le (cond b (x ∷ keep p xs) (keep p xs) ++ cond (not b) (x ∷ others p xs) (others p xs)) ≡ insert le x (sort le (keep p xs ++ others p xs))
        go true = refl
        go false = sort_inside (keep p xs) x (others p xs)

    -- ---- where all that pass a test go before all others
    module _ (p : ℕ → Bool) (apart : (a b : ℕ) → p a ≡ true → p b ≡ false → le a b ≡ true) where
      sort_parts : (xs : List ℕ) → sort le xs ≡ sort le (keep p xs) ++ sort le (others p xs)
      sort_parts xs = sym (sort_parted p xs) ∙ sort_apart le (keep p xs) (others p xs) (each_all (keep p xs) (λ a h. each_all (others p xs) (λ b k. apart a b h (is_not (p b) k)) (each_kept (λ x. not (p x)) xs)) (each_kept p xs))
        where
          is_not : (b : Bool) → not b ≡ true → b ≡ false
          is_not true e = absurd (false≢true e)
          is_not false e = refl

-- ---- by number
pub leb_total : (a b : ℕ) → leb a b ≡ false → leb b a ≡ true
leb_total a b e = let l : b < a = leb-false a b e in le-leb b a (omega arith)

pub leb_trans : (a b c : ℕ) → leb a b ≡ true → leb b c ≡ true → leb a c ≡ true
leb_trans a b c e f = let l : a ≤ b = leb-true a b e in let m : b ≤ c = leb-true b c f in le-leb a c (omega arith)

pub leb_antisym : (a b : ℕ) → leb a b ≡ true → leb b a ≡ true → a ≡ b
leb_antisym a b e f = let l : a ≤ b = leb-true a b e in let m : b ≤ a = leb-true b a f in omega arith

pub ascend_again : (g : ℕ → ℕ → Bool) (xs : List ℕ) → sort leb (sort g xs) ≡ sort leb xs
ascend_again = sort_again leb leb_total leb_trans leb_antisym

pub ascending : (xs : List ℕ) → Sorted leb (sort leb xs)
ascending = sorted_sort leb leb_total leb_trans

-- ---- by a key
module _ (key : ℕ → Float) where
  pub goes_again : (g : ℕ → ℕ → Bool) (xs : List ℕ) → sort (precedes key) (sort g xs) ≡ sort (precedes key) xs
  goes_again = sort_again (precedes key) (goes_total key) (goes_trans key) (goes_antisym key)

  pub halves_parted : (p : ℕ → Bool) (m : ℕ) (xs : List ℕ) → halves (precedes key) m (keep p xs ++ others p xs) ≡ halves (precedes key) m xs
  unfolding halves
  halves_parted p m xs = rw (sort_parted (precedes key) (goes_total key) (goes_trans key) (goes_antisym key) p xs)

  -- what a pivot parts, of a list in ascending order, are its halves where they have the halves' lengths
  pub parted_halves : (v : Float) (t m : ℕ) (xs : List ℕ) → Sorted leb xs → length (keep (ahead key v t) xs) ≡ m
      → keep (ahead key v t) xs ++ others (ahead key v t) xs ≡ halves (precedes key) m xs
  unfolding halves
  parted_halves v t m xs s e =
      let p = ahead key v t in
      let A = keep p xs in
      let B = others p xs in
      let parts = sort_parts (precedes key) (goes_total key) (goes_trans key) (goes_antisym key) p (ahead_precedes key v t) xs in
      let n : length (sort (precedes key) A) ≡ m = length_sort (precedes key) A ∙ e in
      let one : sort leb (take m (sort (precedes key) xs)) ≡ A = ap (λ (l : List ℕ). sort leb (take m l)) parts ∙ ap (sort leb) (take_at (sort (precedes key) A) (sort (precedes key) B) m n) ∙ ascend_again (precedes key) A ∙ sort_sorted leb A (sorted_keep leb p xs s) in
      let two : sort leb (drop m (sort (precedes key) xs)) ≡ B = ap (λ (l : List ℕ). sort leb (drop m l)) parts ∙ ap (sort leb) (drop_at (sort (precedes key) A) (sort (precedes key) B) m n) ∙ ascend_again (precedes key) B ∙ sort_sorted leb B (sorted_keep leb (λ x. not (p x)) xs s) in
      sym (ap₂ (λ (l k : List ℕ). l ++ k) one two)

-- the first m ascending, then the others
pub halves_ascend : (g : ℕ → ℕ → Bool) (m : ℕ) (xs S Y Z : List ℕ) → S ≡ sort g xs → m ≤ length S → length Y ≡ length (take m S) → Y ≡ sort leb (take m S)
    → Z ≡ sort leb (take (length (Y ++ drop m S) - m) (drop m (Y ++ drop m S)))
    → take m (Y ++ drop m S) ++ (Z ++ drop (length (Y ++ drop m S) - m) (drop m (Y ++ drop m S))) ≡ halves g m xs
unfolding halves
halves_ascend g m xs S Y Z e h y ey ez =
    let n : length Y ≡ m = y ∙ length-take-le m S h in
    whole_of S Y Z m n h ∙ rw (ez, rest_of S Y m n h, ey, e)
