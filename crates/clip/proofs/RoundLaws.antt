-- Going round n things, from the one numbered `start` on: which comes at each turn, and the fold over those of the turns so far. Assumes nothing.
use mathlib.Core.Path.{◌≡◌, refl}
use mathlib.Core.Logic.{◌⊎◌, inl, inr, ⊎_elim}
use mathlib.Core.Bool.{Bool, true, false, cond}
use Prim.Native.Nat.{ℕ, ◌+◌, ◌-◌, ◌<◌, min}
use native.Mathlib.Omega.{arith}
use borrow.Author.Tests.{eqb-true}
use lib.Dec.{eqb}
use Rattle.lists.specs.Lists.{run, fold}
use Rattle.lists.proofs.FoldLaws.{fold_run_last}
use Rattle.boundary.specs.Outline.{after}

-- i, less than n, comes at turn k: the numbers from `start` up to n come first, and then those from 0 on
abbrev pub ComesAt : ℕ → ℕ → ℕ → ℕ → Type 0
ComesAt start n k i = (i ≡ start + k) ⊎ (i + n ≡ start + k)

pub turn_first : (start n : ℕ) → ComesAt start n 0 start
turn_first start n = inl (omega arith)

pub turn_next : (start n k i : ℕ) → start < n → k < n → i < n → ComesAt start n k i → ComesAt start n (k + 1) (after n i)
turn_next start n k i s l h t = go (eqb (i + 1) n) refl
  where
    go : (b : Bool) → eqb (i + 1) n ≡ b → ComesAt start n (k + 1) (cond b 0 (i + 1))
    go true e = let d = eqb-true (i + 1) n e in inr (⊎_elim (λ (p : i ≡ start + k). omega arith) (λ (p : i + n ≡ start + k). omega arith) t)
    go false e = ⊎_elim (λ (p : i ≡ start + k). inl (omega arith)) (λ (p : i + n ≡ start + k). inr (omega arith)) t

-- the fold over the members of the first k turns
module _ {A B : Type 0} (f : A → B → A) (g : ℕ → B) (start n : ℕ) where
  abbrev pub fold_round : A → ℕ → A
  fold_round a k = fold f (fold f a (run g start (min k (n - start)))) (run g 0 (k - (n - start)))

  pub fold_round_none : (a : A) → fold_round a 0 ≡ a
  unfolding fold run
  fold_round_none a =
      let e : min 0 (n - start) ≡ 0 = omega arith in
      let z : 0 - (n - start) ≡ 0 = omega arith in
      rw (e, z)

  pub fold_round_next : (a : A) (k i : ℕ) → start < n → i < n → ComesAt start n k i → fold_round a (k + 1) ≡ f (fold_round a k) (g i)
  unfolding fold run
  fold_round_next a k i s h t = ⊎_elim before past t
    where
      before : i ≡ start + k → fold_round a (k + 1) ≡ f (fold_round a k) (g i)
      before p =
          let e : min (k + 1) (n - start) ≡ k + 1 = omega arith in
          let d : min k (n - start) ≡ k = omega arith in
          let y : k + 1 - (n - start) ≡ 0 = omega arith in
          let z : k - (n - start) ≡ 0 = omega arith in
          rw (e, d, y, z, p) (fold_run_last f g a start k)

      past : i + n ≡ start + k → fold_round a (k + 1) ≡ f (fold_round a k) (g i)
      past p =
          let e : min (k + 1) (n - start) ≡ n - start = omega arith in
          let d : min k (n - start) ≡ n - start = omega arith in
          let y : k + 1 - (n - start) ≡ i + 1 = omega arith in
          let z : k - (n - start) ≡ i = omega arith in
          let o : 0 + i ≡ i = omega arith in
          rw (e, d, y, z) (rw o at (fold_run_last f g (fold f a (run g start (n - start))) 0 i))

  pub fold_round_all : (a : A) → start < n → fold_round a n ≡ fold f (fold f a (run g start (n - start))) (run g 0 start)
  fold_round_all a s =
      let e : min n (n - start) ≡ n - start = omega arith in
      let z : n - (n - start) ≡ start = omega arith in
      rw (e, z)
