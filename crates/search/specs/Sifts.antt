-- How an entry moves to its place in a heap: up from the end, or down from the root. Definitions only.
use Rattle.std.specs.Prelude.{◌≡◌, Bool, cond, ◌&&◌, List, ℕ, ◌+◌, ◌*◌, ◌<◌, ltb, get_or, set, Float}
use Rattle.std.specs.Float.{nan}
use Rattle.search.specs.declared.Entry.{Entry}
use Rattle.search.specs.Order.{entry_before, NumberGap, ◌≼◌}
use Rattle.search.specs.Heap.{parent, Heaped, total_weight}

-- the two lists of a heap
pub record HeapLists : Type 0 where
  pub nodes : List ℕ
  pub gaps : List Float

-- the list with what stands at i and j exchanged
abbrev pub exchanged : {A : Type 0} → A → List A → ℕ → ℕ → List A
exchanged d l i j = set (set l i (get_or l j d)) j (get_or l i d)

abbrev pub exchanged_in : List ℕ → List Float → ℕ → ℕ → HeapLists
exchanged_in N G i j = record { nodes = exchanged 0 N i j; gaps = exchanged nan G i j }

-- the entry at i is before its parent
unfoldable pub rises : (ℕ → Entry) → ℕ → Bool
unfolding entry_before
rises f i = ltb 0 i && entry_before (f i) (f (parent i))

-- b where it is among the first n and its entry is before that at a, else a
unfoldable pub earlier_of : (ℕ → Entry) → ℕ → ℕ → ℕ → ℕ
unfolding entry_before
earlier_of f n a b = cond (ltb b n && entry_before (f b) (f a)) b a

-- the least of i and its children
unfoldable pub least_child : (ℕ → Entry) → ℕ → ℕ → ℕ
unfolding earlier_of
least_child f n i = earlier_of f n (earlier_of f n i (2 * i + 1)) (2 * i + 2)

-- the first n places are a heap but for the entry at i, which may have to move: the places that are free may be before their parents,
-- and what stands below i is not before what stands above it
pub record Loose (free : ℕ → Type 0) (f : ℕ → Entry) (n i : ℕ) : Type 0 where
  pub here : NumberGap (f i)
  pub numbers : (k : ℕ) → k < n → NumberGap (f k)
  pub ordered : (k : ℕ) → k < n → (free k → ⊥) → f (parent k) ≼ f k
  pub across : (k : ℕ) → k < n → parent k ≡ i → 0 < i → f (parent i) ≼ f k

-- the entry at i may be before its parent
abbrev pub Rising : (ℕ → Entry) → ℕ → ℕ → Type 0
Rising f n i = Loose (λ k. k ≡ i) f n i

-- the children of i may be before its entry
abbrev pub Sinking : (ℕ → Entry) → ℕ → ℕ → Type 0
Sinking f n i = Loose (λ k. parent k ≡ i) f n i

-- g is a heap of n with the entries of f
pub record Sifted (f : ℕ → Entry) (n : ℕ) (g : ℕ → Entry) : Type 0 where
  pub heaped : Heaped g n
  pub contents : (w : Entry → ℕ) → total_weight w g n ≡ total_weight w f n
