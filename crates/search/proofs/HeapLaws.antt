-- What a search cites of the waiting heap: the root is least, what holds of all entries stays so, and the popped gap is at most every other. Assumes nothing.
use mathlib.Core.Path.{◌≡◌, refl, sym, ap, ◌∙◌, subst, subst₂}
use mathlib.Core.List.{List}
use Prim.Native.Nat.{ℕ, zero, suc, ◌+◌, ◌-◌, ◌<◌, ◌≤◌}
use native.Mathlib.Decide.{ℕ_discrete}
use native.Mathlib.Numerals.{add-one}
use native.Mathlib.Omega.{arith}
use lib.Dec.{T}
use lib.ListN.{length, set}
use lib.Seq.{get_or-set_same, get_or-set_other}
use lib.Ieee.{Float, nan, le}
use Rattle.search.specs.declared.Entry.{Entry}
use Rattle.search.specs.Order.{NumberGap, ◌≼◌}
use Rattle.search.specs.Heap.{entry_at, parent, Heaped, total_weight, Pushed, Popped}
use Rattle.search.specs.Sifts.{Rising, Sinking, Sifted}
use Rattle.search.proofs.EntryOrder.{upto_gap, upto_through}
use Rattle.search.proofs.Contents.{Swap, swap_all, total_same, total_swap, more_all, less_all}

-- ---- the root
pub root_least : {f : ℕ → Entry} {n : ℕ} → Heaped f n → (k : ℕ) → k < n → f 0 ≼ f k
root_least {f} {n} H k K = go k k (omega arith) K
  where
    go : (b k : ℕ) → k ≤ b → k < n → f 0 ≼ f k
    go zero k B K = let z : k ≡ 0 = omega arith in rw z (H.ordered 0 (omega arith))
    go (suc b) k B K = upto_through (go b (parent k) (omega arith) (omega arith)) (H.ordered k K)

-- ---- an empty heap
pub heaped_none : (f : ℕ → Entry) → Heaped f 0
heaped_none f = record { ordered = λ k K. absurd (omega arith) }

-- ---- what holds of all entries
module _ (P : Entry → Type 0) {f g : ℕ → Entry} {n : ℕ} {x : Entry} where
  pub all_kept : Pushed f n x g → ((k : ℕ) → k < n → P (f k)) → P x → (k : ℕ) → k < n + 1 → P (g k)
  all_kept H = more_all P f g H.contents

  pub all_left : Popped f n x g → ((k : ℕ) → k < n → P (f k)) → ((k : ℕ) → k < n - 1 → P (g k)) × P x
  all_left H = less_all P g f H.contents

-- ---- the popped gap
pub popped_gap : {f g : ℕ → Entry} {n : ℕ} {x : Entry} → Popped f n x g → (k : ℕ) → k < n - 1 → T (le x.gap (g k).gap)
popped_gap H k K = upto_gap (H.least k K)

-- ---- push: x stands behind the heap, and rises
module _ (N : List ℕ) (G : List Float) (n : ℕ) (x : Entry) (nodes : n < length N) (gaps : n < length G) where
  abbrev longer : ℕ → Entry
  longer = entry_at (set N n x.node) (set G n x.gap)

  longer_rest : (k : ℕ) → k < n → longer k ≡ entry_at N G k
  longer_rest k K = rw (get_or-set_other N n k x.node 0 (λ z. omega arith), get_or-set_other G n k x.gap nan (λ z. omega arith))

  longer_last : longer n ≡ x
  longer_last = rw (get_or-set_same N n x.node 0 nodes, get_or-set_same G n x.gap nan gaps)

  pub push_rising : Heaped (entry_at N G) n → NumberGap x → Rising longer (n + 1) n
  push_rising H X = record {
    here = last;
    numbers = λ k K. number k K (ℕ_discrete k n);
    ordered = λ k K a. subst₂ ◌≼◌ (sym (longer_rest (parent k) (omega arith))) (sym (longer_rest k (omega arith))) (H.ordered k (omega arith));
    across = λ k K e I. absurd (omega arith);
  }
    where
      last : NumberGap (longer n)
      last = subst NumberGap (sym longer_last) X

      number : (k : ℕ) → k < n + 1 → Dec (k ≡ n) → NumberGap (longer k)
      number k K (yes e) = subst (λ (v : ℕ). NumberGap (longer v)) (sym e) last
      number k K (no a) = subst NumberGap (sym (longer_rest k (omega arith))) (H.ordered k (omega arith)).right

  pub pushed : {g : ℕ → Entry} → Sifted longer (n + 1) g → Pushed (entry_at N G) n x g
  unfolding total_weight
  pushed S = record { heaped = S.heaped; contents = λ w. S.contents w ∙ rw (add-one n, total_same w {f = entry_at N G} {g = longer} n longer_rest, longer_last) }

-- ---- pop: the last entry takes the root's place, and sinks
module _ {f h : ℕ → Entry} {n : ℕ} (S : Swap f h 0 (n - 1)) (N0 : 0 < n) (H : Heaped f n) where
  pub pop_sinking : Sinking h (n - 1) 0
  pop_sinking = record {
    here = rw S.left (number (n - 1) (omega arith));
    numbers = λ k K. swap_all NumberGap S N0 (omega arith) number k (omega arith);
    ordered = λ k K a. rw (S.rest (parent k) a (λ z. omega arith), S.rest k (λ z. omega arith) (λ z. omega arith)) (H.ordered k (omega arith));
    across = λ k K e I. absurd (omega arith);
  }
    where
      number : (k : ℕ) → k < n → NumberGap (f k)
      number k K = (H.ordered k K).right

  pub popped : {g : ℕ → Entry} → Sifted h (n - 1) g → Popped f n (f 0) g
  unfolding total_weight
  popped {g} D = record { heaped = D.heaped; contents = contents; least = (less_all (λ (y : Entry). f 0 ≼ y) g f contents (root_least H)).0 }
    where
      contents : (w : Entry → ℕ) → total_weight w f n ≡ total_weight w g (n - 1) + w (f 0)
      contents w =
          let last : n ≡ suc (n - 1) = omega arith in
          let split : total_weight w h (suc (n - 1)) ≡ total_weight w h (n - 1) + w (h (n - 1)) = refl in
          let moved = ap w S.right in
          let same = total_swap w n S N0 (omega arith) in
          let whole = ap (total_weight w h) last in
          let sifted = D.contents w in
          omega arith
