-- A heap of entries in two lists, and what push and pop do to one. Definitions only.
use Rattle.std.specs.Prelude.{◌≡◌, List, ℕ, zero, suc, ◌+◌, ◌-◌, ◌/◌, ◌<◌, get_or, Float}
use Rattle.std.specs.Float.{nan}
use Rattle.search.specs.declared.Entry.{Entry}
use Rattle.search.specs.Order.{◌≼◌}

-- the entry at place i of the lists of nodes and gaps
abbrev pub entry_at : List ℕ → List Float → ℕ → Entry
entry_at nodes gaps i = record { gap = get_or gaps i nan; node = get_or nodes i 0 }

-- the place above i; 0, the root, is its own
abbrev pub parent : ℕ → ℕ
parent i = (i - 1) / 2

-- the first n places are a heap: every gap is a number, and no entry is before its parent
pub record Heaped (f : ℕ → Entry) (n : ℕ) : Type 0 where
  pub ordered : (k : ℕ) → k < n → f (parent k) ≼ f k

-- the weights of the first n entries together
unfoldable pub total_weight : (Entry → ℕ) → (ℕ → Entry) → ℕ → ℕ
total_weight w f zero = 0
total_weight w f (suc n) = total_weight w f n + w (f n)

-- the heap f of n entries became the heap g: x came in, and whatever an entry weighs, the total says that nothing is lost and nothing else is new
pub record Pushed (f : ℕ → Entry) (n : ℕ) (x : Entry) (g : ℕ → Entry) : Type 0 where
  pub heaped : Heaped g (n + 1)
  pub contents : (w : Entry → ℕ) → total_weight w g (n + 1) ≡ total_weight w f n + w x

-- x was taken out, and no entry that stays is before it
pub record Popped (f : ℕ → Entry) (n : ℕ) (x : Entry) (g : ℕ → Entry) : Type 0 where
  pub heaped : Heaped g (n - 1)
  pub contents : (w : Entry → ℕ) → total_weight w f n ≡ total_weight w g (n - 1) + w x
  pub least : (k : ℕ) → k < n - 1 → x ≼ g k
