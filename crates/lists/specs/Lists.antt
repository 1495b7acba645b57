-- Runs of values, folds over lists, what holds of the members, and what is written to the front of a list. Definitions only.
use Rattle.std.specs.Prelude.{Bool, false, cond, ◌||◌, List, [], ◌∷◌, ◌++◌, ℕ, zero, suc, ◌+◌, ◌<◌, eqb, length, drop, replicate, pos, Float}
use Rattle.std.specs.Float.{fin, binary64}
use Rattle.std.specs.Float.Ieee.{unlike, add}

-- f i, f (i + 1), .. : k of them
unfoldable pub run : {A : Type 0} → (ℕ → A) → ℕ → ℕ → List A
run f i zero = []
run f i (suc k) = f i ∷ run f (suc i) k

-- ---- the members one after the other
-- taken from the first on
unfoldable pub fold : {A B : Type 0} → (A → B → A) → A → List B → A
fold f a [] = a
fold f a (x ∷ xs) = fold f (f a x) xs

-- whether some member passes the test
unfoldable pub any : {A : Type 0} → (A → Bool) → List A → Bool
unfolding fold
any p xs = fold (λ b x. b || p x) false xs

-- whether an odd number of members pass it
unfoldable pub odd_many : {A : Type 0} → (A → Bool) → List A → Bool
unfolding fold
odd_many p xs = fold (λ b x. unlike b (p x)) false xs

-- the sum of f over the members: sums start at +0
unfoldable pub total : {A : Type 0} → (A → Float) → List A → Float
unfolding fold
total f xs = fold (λ s x. add binary64 s (f x)) (fin false 0 (pos 0)) xs

-- how often i occurs in the list
unfoldable pub times : ℕ → List ℕ → ℕ
times i [] = 0
times i (x ∷ xs) = cond (eqb x i) 1 0 + times i xs

abbrev pub In : ℕ → List ℕ → Type 0
In i xs = 0 < times i xs

-- ---- what holds of the members
-- of every member
unfoldable pub Every : {A : Type 0} → (A → Type 0) → List A → Type 0
Every P [] = Unit {0}
Every P (x ∷ xs) = P x × Every P xs

-- of some member
pub data Some {A : Type 0} (P : A → Type 0) : List A → Type 0 where
  here : {x : A} {xs : List A} → P x → Some P (x ∷ xs)
  there : {x : A} {xs : List A} → Some P xs → Some P (x ∷ xs)

-- two lists of one length, related member by member
pub data Each {A B : Type 0} (R : A → B → Type 0) : List A → List B → Type 0 where
  none : Each R [] []
  more : {x : A} {y : B} {xs : List A} {ys : List B} → R x y → Each R xs ys → Each R (x ∷ xs) (y ∷ ys)

-- the first is the second with some members left out, in the same order
pub data Sublist {A : Type 0} : List A → List A → Type 0 where
  ended : Sublist [] []
  stays : {x : A} {xs ys : List A} → Sublist xs ys → Sublist (x ∷ xs) (x ∷ ys)
  omitted : {y : A} {xs ys : List A} → Sublist xs ys → Sublist xs (y ∷ ys)

-- ---- a lent list as a call leaves it
-- xs from the front on, and the places past its end unchanged
unfoldable pub at_front : {A : Type 0} → List A → List A → List A
at_front xs out = xs ++ drop (length xs) out

-- n times z
abbrev pub zeros : {A : Type 0} → A → ℕ → List A
zeros z n = replicate n z
