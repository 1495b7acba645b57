-- Folds: by a loop, in which what is left to fold gives the final answer; over two lists one after the other; and whether some member passes a test. Assumes nothing.
use mathlib.Core.Path.{◌≡◌, refl, sym, ap, ◌∙◌, subst}
use mathlib.Core.Bool.{Bool, true, false, cond, ◌&&◌, ◌||◌, true≢false}
use mathlib.Core.List.{List, [], ◌∷◌, ◌++◌}
use Prim.Native.Nat.{ℕ, zero, suc, ◌+◌, ◌-◌, ◌≤◌, ◌<◌, min}
use native.Mathlib.Numerals.{add-one}
use native.Mathlib.Omega.{arith}
use lib.Dec.{T}
use lib.ListN.{length, get_or, drop}
use lib.Seq.{drop-cons, drop-length}
use Rattle.lists.specs.Lists.{run, fold, any, Every}
use Rattle.lists.proofs.RunLaws.{run_last}

module _ {A B : Type 0} (f : A → B → A) where
  -- over the run g i, g (i + 1), .. up to g n, that one not included
  pub fold_run_next : (g : ℕ → B) (a : A) (i n : ℕ) → i < n → fold f a (run g i (n - i)) ≡ fold f (f a (g i)) (run g (i + 1) (n - (i + 1)))
  unfolding fold run
  fold_run_next g a i n l = let e : n - i ≡ suc (n - (i + 1)) = omega arith in rw (e, add-one)

  pub fold_run_end : (g : ℕ → B) (a : A) (i n : ℕ) → n ≤ i → fold f a (run g i (n - i)) ≡ a
  unfolding fold run
  fold_run_end g a i n l = let e : n - i ≡ 0 = omega arith in rw e

  -- over the members of v from i on
  pub fold_drop_next : (d : B) (a : A) (v : List B) (i : ℕ) → i < length v → fold f a (drop i v) ≡ fold f (f a (get_or v i d)) (drop (i + 1) v)
  unfolding fold
  fold_drop_next d a v i l = rw (drop-cons v i d l, add-one)

  pub fold_drop_end : (a : A) (v : List B) (i : ℕ) → i ≤ length v → length v ≤ i → fold f a (drop i v) ≡ a
  unfolding fold
  fold_drop_end a v i l h = let e : i ≡ length v = omega arith in rw (e, drop-length)

  -- where the order of two members does not matter, the last may come first
  pub fold_last : ((a : A) (x y : B) → f (f a x) y ≡ f (f a y) x) → (a : A) (x : B) (xs : List B) → fold f a (xs ++ (x ∷ [])) ≡ fold f (f a x) xs
  unfolding fold
  fold_last free a x [] = refl
  fold_last free a x (y ∷ xs) = fold_last free (f a y) x xs ∙ ap (λ t. fold f t xs) (free a y x)

  -- over two lists one after the other
  pub fold_append : (a : A) (xs ys : List B) → fold f a (xs ++ ys) ≡ fold f (fold f a xs) ys
  unfolding fold
  fold_append a [] ys = refl
  fold_append a (x ∷ xs) ys = fold_append (f a x) xs ys

  pub fold_run_last : (g : ℕ → B) (a : A) (i k : ℕ) → fold f a (run g i (k + 1)) ≡ f (fold f a (run g i k)) (g (i + k))
  unfolding fold
  fold_run_last g a i k = rw (add-one k, run_last g i k) (fold_append a (run g i k) (g (i + k) ∷ []))

-- both hold where the two together do
pub and_both : (a b : Bool) → (a && b) ≡ true → (a ≡ true) × (b ≡ true)
and_both true b h = (refl, h)
and_both false b h = absurd (true≢false (sym h))

-- neither of two holds where one of them or the other does not
pub or_none : (a b : Bool) → (a || b) ≡ false → (a ≡ false) × (b ≡ false)
or_none true b e = absurd (true≢false e)
or_none false b e = (refl, e)

-- where no member passes a test, the i-th does not
module _ {A : Type 0} (p : A → Bool) where
  fold_first : (b : Bool) (xs : List A) → fold (λ c x. c || p x) b xs ≡ false → b ≡ false
  unfolding fold
  fold_first b [] e = e
  fold_first b (x ∷ xs) e = (or_none b (p x) (fold_first (b || p x) xs e)).0

  fold_at : (d : A) (b : Bool) (xs : List A) (i : ℕ) → i < length xs → fold (λ c x. c || p x) b xs ≡ false → p (get_or xs i d) ≡ false
  unfolding fold
  fold_at d b [] i l e = elim l [ ]
  fold_at d b (x ∷ xs) zero l e = (or_none b (p x) (fold_first (b || p x) xs e)).1
  fold_at d b (x ∷ xs) (suc i) l e = fold_at d (b || p x) xs i (omega arith) e

  pub any_at_lem : (d : A) (xs : List A) (i : ℕ) → i < length xs → any p xs ≡ false → p (get_or xs i d) ≡ false
  unfolding any
  any_at_lem d xs i l e = fold_at d false xs i l e

  -- and where one passed, some member does, whatever is left
  pub fold_found : (xs : List A) → fold (λ c x. c || p x) true xs ≡ true
  unfolding fold
  fold_found [] = refl
  fold_found (x ∷ xs) = fold_found xs

or_weaker : (a b c d : Bool) → (b ≡ false → a ≡ false) → (d ≡ false → c ≡ false) → (b || d) ≡ false → (a || c) ≡ false
or_weaker a false c false h k e = rw (h refl, k refl)
or_weaker a false c true h k e = absurd (true≢false e)
or_weaker a true c d h k e = absurd (true≢false e)

-- where no member passes a test, none passes one that is harder to pass
module _ {A : Type 0} (p q : A → Bool) (harder : (x : A) → q x ≡ false → p x ≡ false) where
  fold_none : (a b : Bool) (xs : List A) → (b ≡ false → a ≡ false) → fold (λ c x. c || q x) b xs ≡ false → fold (λ c x. c || p x) a xs ≡ false
  unfolding fold
  fold_none a b [] h e = h e
  fold_none a b (x ∷ xs) h e = fold_none (a || p x) (b || q x) xs (or_weaker a b (p x) (q x) h (harder x)) e

  pub any_none : (xs : List A) → any q xs ≡ false → any p xs ≡ false
  unfolding any
  any_none xs e = fold_none false false xs (λ h. h) e

-- over two lists one after the other, and where no member does
module _ {A : Type 0} (p : A → Bool) where
  -- with what was found before
  pub any_from : (b : Bool) (xs : List A) → fold (λ c x. c || p x) b xs ≡ (b || any p xs)
  unfolding fold any
  any_from true [] = refl
  any_from false [] = refl
  any_from true (x ∷ xs) = any_from true xs
  any_from false (x ∷ xs) = refl

  pub any_append : (xs ys : List A) → any p (xs ++ ys) ≡ (any p xs || any p ys)
  unfolding fold any
  any_append [] ys = refl
  any_append (x ∷ xs) ys = go (p x) (any_append xs ys)
    where
      go : (b : Bool) → any p (xs ++ ys) ≡ (any p xs || any p ys) → fold (λ c x. c || p x) b (xs ++ ys) ≡ (fold (λ c x. c || p x) b xs || any p ys)
      go true e = any_from true (xs ++ ys) ∙ sym (ap (λ (c : Bool). c || any p ys) (any_from true xs))
      go false e = e

  pub none_of : (d : A) (xs : List A) → ((i : ℕ) → i < length xs → p (get_or xs i d) ≡ false) → any p xs ≡ false
  unfolding fold any
  none_of d [] h = refl
  none_of d (x ∷ xs) h = rw (h 0 (omega arith)) (none_of d xs (λ i l. h (suc i) (omega arith)))

-- no member passes a test that none can pass
pub any_never : {A : Type 0} (xs : List A) → any (λ x. false) xs ≡ false
unfolding any fold
any_never [] = refl
any_never (x ∷ xs) = any_never xs

-- where no member passes a test, every member fails it
module _ {A : Type 0} (p : A → Bool) where
  every_from : (b : Bool) (xs : List A) → fold (λ b x. b || p x) b xs ≡ false → Every (λ x. p x ≡ false) xs
  unfolding fold Every
  every_from b [] h = tt
  every_from b (x ∷ xs) h = (failed b (p x) h, every_from (b || p x) xs h)
    where
      failed : (b c : Bool) → fold (λ b x. b || p x) (b || c) xs ≡ false → c ≡ false
      failed b false h = refl
      failed false true h = absurd (subst T (sym (fold_found p xs) ∙ h) tt)
      failed true true h = absurd (subst T (sym (fold_found p xs) ∙ h) tt)

  pub every_fails : (xs : List A) → any p xs ≡ false → Every (λ x. p x ≡ false) xs
  unfolding any
  every_fails xs h = every_from false xs h

-- tests that agree on every member
module _ {A : Type 0} (p q : A → Bool) where
  same_from : (b : Bool) (xs : List A) → Every (λ x. p x ≡ q x) xs → fold (λ c x. c || p x) b xs ≡ fold (λ c x. c || q x) b xs
  unfolding fold Every
  same_from b [] h = refl
  same_from b (x ∷ xs) h = rw h.0 (same_from (b || q x) xs h.1)

  pub any_same : (xs : List A) → Every (λ x. p x ≡ q x) xs → any p xs ≡ any q xs
  unfolding any
  any_same xs h = same_from false xs h

-- ---- the least number that is given to a member: k to those that pass a test, f to the others, to none less than k
module _ {A : Type 0} (q : A → Bool) (f : A → ℕ) (k : ℕ) (above : (x : A) → k ≤ f x) where
  two : (x : A) (b c : Bool) (m : ℕ) → k ≤ m → min (cond b k m) (cond c k (f x)) ≡ cond (b || c) k (min m (f x))
  two x true true m h = omega arith
  two x true false m h = let a = above x in omega arith
  two x false true m h = omega arith
  two x false false m h = refl

  least_from : (b : Bool) (m : ℕ) (xs : List A) → k ≤ m → fold (λ n x. min n (cond (q x) k (f x))) (cond b k m) xs ≡ cond (fold (λ c x. c || q x) b xs) k (fold (λ n x. min n (f x)) m xs)
  unfolding fold
  least_from b m [] h = refl
  least_from b m (x ∷ xs) h =
      let a = above x in
      ap (λ (n : ℕ). fold (λ n x. min n (cond (q x) k (f x))) n xs) (two x b (q x) m h) ∙ least_from (b || q x) (min m (f x)) xs (omega arith)

  -- k where some member passes the test, and else the least of the others
  pub least_first : (m : ℕ) (xs : List A) → k ≤ m → fold (λ n x. min n (cond (q x) k (f x))) m xs ≡ cond (any q xs) k (fold (λ n x. min n (f x)) m xs)
  unfolding any
  least_first m xs h = least_from false m xs h

pub least_none : {A : Type 0} (m : ℕ) (xs : List A) → fold (λ n x. min n m) m xs ≡ m
unfolding fold
least_none m [] = refl
least_none m (x ∷ xs) = let e : min m m ≡ m = omega arith in rw e (least_none m xs)
