-- The list in order, under any order of numbers. Definitions only.
use Rattle.std.specs.Prelude.{◌≡◌, Bool, true, not, cond, List, [], ◌∷◌, ◌++◌, ℕ, ◌-◌, ◌≤◌, leb, length, take, drop}
use Rattle.lists.specs.Lists.{times, Every}

-- x before the first member that it goes before
unfoldable pub insert : (ℕ → ℕ → Bool) → ℕ → List ℕ → List ℕ
insert le x [] = x ∷ []
insert le x (y ∷ ys) = cond (le x y) (x ∷ y ∷ ys) (y ∷ insert le x ys)

-- the list in order: each member is put into what is sorted of the rest
unfoldable pub sort : (ℕ → ℕ → Bool) → List ℕ → List ℕ
unfolding insert
sort le [] = []
sort le (x ∷ xs) = insert le x (sort le xs)

-- the members that pass a test, and those that do not, in their order
unfoldable pub keep : (ℕ → Bool) → List ℕ → List ℕ
keep p [] = []
keep p (x ∷ xs) = cond (p x) (x ∷ keep p xs) (keep p xs)

abbrev pub others : (ℕ → Bool) → List ℕ → List ℕ
others p xs = keep (λ x. not (p x)) xs

-- a list parted by a test: how many members pass it, and the list with these first
pub record Parted : Type 0 where
  pub count : ℕ
  pub list : List ℕ

unfoldable pub parted_by : (ℕ → Bool) → List ℕ → Parted
parted_by p xs = record { count = length (keep p xs); list = keep p xs ++ others p xs }

-- of the first i members of s₀, those that pass have been put to the front of s, a of them, and the others to the front of t
pub record Dealt (p : ℕ → Bool) (s₀ t₀ s t : List ℕ) (a i : ℕ) : Type 0 where
  pub within : i ≤ length s₀
  pub fewer : a ≤ i
  pub long : length s ≡ length s₀
  pub room : length t ≡ length t₀
  pub passed : take a s ≡ keep p (take i s₀)
  pub failed : take (i - a) t ≡ others p (take i s₀)
  pub ahead : drop i s ≡ drop i s₀

-- each member goes before all that follow
unfoldable pub Sorted : (ℕ → ℕ → Bool) → List ℕ → Type 0
unfolding Every
Sorted le [] = Unit {0}
Sorted le (x ∷ xs) = Every (λ y. le x y ≡ true) xs × Sorted le xs

-- the first m in order, ascending, then the others, ascending
unfoldable pub halves : (ℕ → ℕ → Bool) → ℕ → List ℕ → List ℕ
unfolding sort
halves le m xs = sort leb (take m (sort le xs)) ++ sort leb (drop m (sort le xs))

-- what the Rust's `select_nth_unstable_by` at the place m promises to leave of xs: the same members, and none of the first m goes after one of the others; it says nothing of the order inside the two parts
pub record Selected (le : ℕ → ℕ → Bool) (m : ℕ) (xs ys : List ℕ) : Type 0 where
  pub same : (i : ℕ) → times i ys ≡ times i xs
  pub parted : Every (λ a. Every (λ b. le a b ≡ true) (drop m ys)) (take m ys)
