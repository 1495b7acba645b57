-- Runs: how long one is, its members, its last member, cut in two, reversed, mapped. Assumes nothing.
use mathlib.Core.Path.{◌≡◌, refl, ap, ◌∙◌}
use mathlib.Core.List.{List, [], ◌∷◌, ◌++◌, map, reverse, reverse-cons}
use Prim.Native.Nat.{ℕ, zero, suc, ◌+◌, ◌-◌, ◌≤◌, ◌<◌}
use native.Mathlib.Nat.{add-zero}
use native.Mathlib.Decide.{ℕ_discrete}
use native.Mathlib.Omega.{arith}
use lib.ListN.{length, get_or, take, drop}
use lib.Seq.{take_at, drop_at}
use Rattle.lists.specs.Lists.{run}

pub run_at : {A : Type 0} (g : ℕ → A) (i k j : ℕ) (d : A) → j < k → get_or (run g i k) j d ≡ g (i + j)
unfolding run
run_at g i zero j d h = absurd (omega arith)
run_at g i (suc k) zero d h = rw add-zero
run_at g i (suc k) (suc j) d h = run_at g (suc i) k j d (omega arith) ∙ ap g (omega arith)

module _ {A : Type 0} where
  pub run_last : (f : ℕ → A) (i k : ℕ) → run f i (suc k) ≡ run f i k ++ (f (i + k) ∷ [])
  unfolding run
  run_last f i zero = let e : i + 0 ≡ i = omega arith in rw e
  run_last f i (suc k) = let e : i + suc k ≡ suc i + k = omega arith in rw e (ap (λ (xs : List A). f i ∷ xs) (run_last f (suc i) k))

  -- one later
  pub run_later : (f g : ℕ → A) (i k : ℕ) → ((j : ℕ) → j < i + k → f (suc j) ≡ g j) → run f (suc i) k ≡ run g i k
  unfolding run
  run_later f g i zero later = refl
  run_later f g i (suc k) later = rw (later i (omega arith), run_later f g (suc i) k (λ j l. later j (omega arith)))

  -- g counts down where f counts up
  pub reverse_run : (f g : ℕ → A) (i k : ℕ) → ((j : ℕ) → j < k → g j ≡ f (i + (k - 1 - j))) → reverse (run f i k) ≡ run g 0 k
  unfolding run
  reverse_run f g i zero down = refl
  reverse_run f g i (suc k) down =
      let later : (j : ℕ) → j < k → g j ≡ f (suc i + (k - 1 - j)) = λ j l. down j (omega arith) ∙ ap f (omega arith) in
      let last : g (0 + k) ≡ f i = ap g (omega arith) ∙ down k (omega arith) ∙ ap f (omega arith) in
      rw (reverse-cons (f i) (run f (suc i) k), reverse_run f g (suc i) k later, run_last g 0 k, last)

  pub run_same : (f g : ℕ → A) (i k : ℕ) → ((j : ℕ) → j < i + k → f j ≡ g j) → run f i k ≡ run g i k
  unfolding run
  run_same f g i zero h = refl
  run_same f g i (suc k) h =
      let e : f i ≡ g i = h i (omega arith) in
      rw (e, run_same f g (suc i) k (λ j l. h j (omega arith)))

  pub length_run : (f : ℕ → A) (i k : ℕ) → length (run f i k) ≡ k
  unfolding run
  length_run f i zero = refl
  length_run f i (suc k) = ap suc (length_run f (suc i) k)

  run_add : (f : ℕ → A) (i j k : ℕ) → run f i (j + k) ≡ run f i j ++ run f (i + j) k
  unfolding run
  run_add f i zero k = let e : i + 0 ≡ i = omega arith in let z : 0 + k ≡ k = omega arith in rw (e, z)
  run_add f i (suc j) k =
      let e : suc j + k ≡ suc (j + k) = omega arith in
      let g : i + suc j ≡ suc i + j = omega arith in
      rw (e, g, run_add f (suc i) j k)

  pub run_split : (f : ℕ → A) (j n : ℕ) → j ≤ n → run f 0 n ≡ run f 0 j ++ run f j (n - j)
  run_split f j n l =
      let e : j + (n - j) ≡ n = omega arith in
      let z : 0 + j ≡ j = omega arith in
      rw (e, z) at (run_add f 0 j (n - j))

  pub take_run : (f : ℕ → A) (j n : ℕ) → j ≤ n → take j (run f 0 n) ≡ run f 0 j
  take_run f j n l = rw (run_split f j n l) (take_at (run f 0 j) (run f j (n - j)) j (length_run f 0 j))

  pub drop_run : (f : ℕ → A) (j n : ℕ) → j ≤ n → drop j (run f 0 n) ≡ run f j (n - j)
  drop_run f j n l = rw (run_split f j n l) (drop_at (run f 0 j) (run f j (n - j)) j (length_run f 0 j))

pub map_run : {A B : Type 0} (h : A → B) (g : ℕ → A) (i k : ℕ) → map h (run g i k) ≡ run (λ j. h (g j)) i k
unfolding run
map_run h g i zero = refl
map_run h g i (suc k) = rw (map_run h g (suc i) k)

-- what holds of every number below i, and of i
pub one_more : (P : ℕ → Type 0) (i : ℕ) → ((j : ℕ) → j < i → P j) → P i → (j : ℕ) → j < i + 1 → P j
one_more P i h p j l = go (ℕ_discrete j i)
  where
    go : Dec (j ≡ i) → P j
    go (yes e) = rw e p
    go (no a) = h j (omega arith)
