-- An entry that moves up or down by exchanges ends in a heap. Assumes nothing.
use mathlib.Core.Path.{◌≡◌, refl, sym, ap, ◌∙◌, subst}
use mathlib.Core.Logic.{◌⊎◌, inl, inr, ⊎_elim}
use mathlib.Core.Bool.{Bool, true, false, cond, ◌&&◌}
use mathlib.Core.List.{List}
use Prim.Native.Nat.{ℕ, ◌+◌, ◌*◌, ◌/◌, ◌<◌, ◌≤◌}
use native.Mathlib.Decide.{ℕ_discrete}
use native.Mathlib.Omega.{arith}
use borrow.Author.Tests.{ltb-true, ltb-false, le-ltb}
use lib.Dec.{T, ltb}
use lib.ListN.{length, length-set}
use lib.Ieee.{Float, nan}
use Rattle.search.specs.declared.Entry.{Entry}
use Rattle.search.specs.Order.{entry_before, NumberGap, ◌≼◌}
use Rattle.search.specs.Heap.{entry_at, parent, Heaped, total_weight}
use Rattle.search.specs.Sifts.{exchanged, rises, earlier_of, least_child, Rising, Sinking}
use Rattle.search.proofs.EntryOrder.{upto_of_before, upto_of_not, upto_self, upto_through}
use Rattle.search.proofs.Contents.{Swap, exchanged_swap, swap_all, total_swap}

-- the same for entries that are equal
moved : {a b c d : Entry} → a ≼ b → c ≡ a → d ≡ b → c ≼ d
moved h p q = rw (p, q) h

-- ---- the lists N and G, which were M and F, while an entry moves: as long, and with the same entries among the first n
pub record Moving (M : List ℕ) (F : List Float) (n : ℕ) (N : List ℕ) (G : List Float) : Type 0 where
  pub nodes : length N ≡ length M
  pub gaps : length G ≡ length F
  pub contents : (w : Entry → ℕ) → total_weight w (entry_at N G) n ≡ total_weight w (entry_at M F) n

pub moving : (M : List ℕ) (F : List Float) (n : ℕ) → Moving M F n M F
moving M F n = record { nodes = refl; gaps = refl; contents = λ w. refl }

pub move_on : {M N N' : List ℕ} {F G G' : List Float} {n i j : ℕ} → Moving M F n N G → i < n → j < n → N' ≡ exchanged 0 N i j → G' ≡ exchanged nan G i j → Swap (entry_at N G) (entry_at N' G') i j → Moving M F n N' G'
move_on {n = n} H I J e d S = record {
  nodes = ap length e ∙ (simp length-set) ∙ H.nodes;
  gaps = ap length d ∙ (simp length-set) ∙ H.gaps;
  contents = λ w. total_swap w n S I J ∙ H.contents w;
}

-- ---- up
pub rises_says : (f : ℕ → Entry) (i : ℕ) → rises f i ≡ true → (0 < i) × (entry_before (f i) (f (parent i)) ≡ true)
unfolding rises
rises_says f i = go (ltb 0 i) refl (entry_before (f i) (f (parent i)))
  where
    go : (s : Bool) → ltb 0 i ≡ s → (t : Bool) → (s && t) ≡ true → (0 < i) × (t ≡ true)
    go true e t h = (ltb-true 0 i e, h)
    go false e t h = absurd (subst T (sym h) tt)

module _ {f : ℕ → Entry} {n i : ℕ} (R : Rising f n i) (I : i < n) where
  pub risen : rises f i ≡ false → Heaped f n
  unfolding rises
  risen = go (ltb 0 i) refl (entry_before (f i) (f (parent i))) refl
    where
      heap : f (parent i) ≼ f i → Heaped f n
      heap h = record { ordered = λ k K. at k K (ℕ_discrete k i) }
        where
          at : (k : ℕ) → k < n → Dec (k ≡ i) → f (parent k) ≼ f k
          at k K (yes e) = rw e h
          at k K (no a) = R.ordered k K a

      go : (s : Bool) → ltb 0 i ≡ s → (t : Bool) → entry_before (f i) (f (parent i)) ≡ t → (s && t) ≡ false → Heaped f n
      go true e true u h = absurd (subst T h tt)
      go true e false u h = heap (upto_of_not (f (parent i)) (f i) (R.numbers (parent i) (omega arith)) R.here u)
      go false e t u h = let z : i ≡ 0 = omega (arith, ltb-false 0 i e) in heap (subst (λ (v : ℕ). f (parent v) ≼ f v) (sym z) (upto_self (f 0) (R.numbers 0 (omega arith))))

  pub rise_on : {g : ℕ → Entry} → 0 < i → entry_before (f i) (f (parent i)) ≡ true → Swap f g i (parent i) → Rising g n (parent i)
  rise_on {g} I0 b S = record {
    here = rw S.right R.here;
    numbers = swap_all NumberGap S I P R.numbers;
    ordered = λ k K a. order k K a (ℕ_discrete k i) (ℕ_discrete (parent k) i) (ℕ_discrete (parent k) p);
    across = λ k K e P0. over k K e P0 (ℕ_discrete k i);
  }
    where
      p : ℕ
      p = parent i

      P : p < n
      P = omega arith

      swapped : f i ≼ f p
      swapped = upto_of_before (f i) (f p) R.here (R.numbers p P) (subst T (sym b) tt)

      order : (k : ℕ) → k < n → (k ≡ p → ⊥) → Dec (k ≡ i) → Dec (parent k ≡ i) → Dec (parent k ≡ p) → g (parent k) ≼ g k
      order k K a (yes e) d d' = rw e (moved swapped S.right S.left)
      order k K a (no b) (yes e) d = moved (R.across k K e I0) (rw e S.left) (S.rest k b a)
      order k K a (no b) (no c) (yes e) = moved (upto_through swapped (rw e at (R.ordered k K b))) (rw e S.right) (S.rest k b a)
      order k K a (no b) (no c) (no d) = moved (R.ordered k K b) (S.rest (parent k) c d) (S.rest k b a)

      over : (k : ℕ) → k < n → parent k ≡ p → 0 < p → Dec (k ≡ i) → g (parent p) ≼ g k
      over k K e P0 (yes z) = rw z (moved (R.ordered p P (λ z. omega arith)) (S.rest (parent p) (λ z. omega arith) (λ z. omega arith)) S.left)
      over k K e P0 (no a) = moved (upto_through (R.ordered p P (λ z. omega arith)) (rw e at (R.ordered k K a))) (S.rest (parent p) (λ z. omega arith) (λ z. omega arith)) (S.rest k a (λ z. omega arith))

-- ---- the least of an entry and its children
pub first_place : (f : ℕ → Entry) (n a b : ℕ) → (earlier_of f n a b ≡ a) ⊎ ((earlier_of f n a b ≡ b) × (b < n))
unfolding earlier_of
first_place f n a b = go (ltb b n) refl (entry_before (f b) (f a))
  where
    go : (s : Bool) → ltb b n ≡ s → (t : Bool) → (cond (s && t) b a ≡ a) ⊎ ((cond (s && t) b a ≡ b) × (b < n))
    go true e true = inr (refl, ltb-true b n e)
    go true e false = inl refl
    go false e t = inl refl

-- a place without children
pub least_leaf : (f : ℕ → Entry) (n i : ℕ) → n / 2 ≤ i → least_child f n i ≡ i
unfolding least_child earlier_of
least_leaf f n i h = rw (le-ltb (2 * i + 1) n (omega arith), le-ltb (2 * i + 2) n (omega arith))

record First (f : ℕ → Entry) (n a b m : ℕ) : Type 0 where
  upto : f m ≼ f a
  below : b < n → f m ≼ f b

first : (f : ℕ → Entry) (n a b : ℕ) → NumberGap (f a) → (b < n → NumberGap (f b)) → First f n a b (earlier_of f n a b)
unfolding earlier_of
first f n a b A B = go (ltb b n) refl (entry_before (f b) (f a)) refl
  where
    go : (s : Bool) → ltb b n ≡ s → (t : Bool) → entry_before (f b) (f a) ≡ t → First f n a b (cond (s && t) b a)
    go true e true h = let l = ltb-true b n e in record { upto = upto_of_before (f b) (f a) (B l) A (subst T (sym h) tt); below = λ l. upto_self (f b) (B l) }
    go true e false h = record { upto = upto_self (f a) A; below = λ l. upto_of_not (f a) (f b) A (B l) h }
    go false e t h = record { upto = upto_self (f a) A; below = λ l. absurd (omega (arith, ltb-false b n e)) }

record Least (f : ℕ → Entry) (n i m : ℕ) : Type 0 where
  place : (m ≡ i) ⊎ ((i < m) × (m < n) × (parent m ≡ i))
  upto : f m ≼ f i
  below : (k : ℕ) → 0 < k → k < n → parent k ≡ i → f m ≼ f k

least : {f : ℕ → Entry} {n i : ℕ} → Sinking f n i → Least f n i (least_child f n i)
unfolding least_child
least {f} {n} {i} R =
    let A = first f n i (2 * i + 1) R.here (R.numbers (2 * i + 1)) in
    let m = earlier_of f n i (2 * i + 1) in
    let B = first f n m (2 * i + 2) A.upto.left (R.numbers (2 * i + 2)) in
    record {
      place = ⊎_elim (λ e. ⊎_elim (λ d. inl (subst (λ (v : ℕ). v ≡ i) (sym e) d)) (λ d. inr (omega arith, omega arith, omega arith)) (first_place f n i (2 * i + 1))) (λ e. inr (omega arith, omega arith, omega arith)) (first_place f n m (2 * i + 2));
      upto = upto_through B.upto A.upto;
      below = λ k K0 K e. child k K0 K e A B (ℕ_discrete k (2 * i + 1));
    }
  where
    child : (k : ℕ) → 0 < k → k < n → parent k ≡ i → {m l : ℕ} → First f n i (2 * i + 1) m → First f n m (2 * i + 2) l → Dec (k ≡ 2 * i + 1) → f l ≼ f k
    child k K0 K e A B (yes z) = rw z (upto_through B.upto (A.below (omega arith)))
    child k K0 K e A B (no a) = let z : k ≡ 2 * i + 2 = omega arith in rw z (B.below (omega arith))

-- ---- down
module _ {f : ℕ → Entry} {n i : ℕ} (R : Sinking f n i) where
  pub sunk : least_child f n i ≡ i → Heaped f n
  sunk z = record { ordered = λ k K. at k K (ℕ_discrete (parent k) i) (ℕ_discrete k 0) }
    where
      at : (k : ℕ) → k < n → Dec (parent k ≡ i) → Dec (k ≡ 0) → f (parent k) ≼ f k
      at k K (no a) d = R.ordered k K a
      at k K (yes e) (yes o) = rw o (upto_self (f 0) (R.numbers 0 (omega arith)))
      at k K (yes e) (no o) = rw (e, ← z) ((least R).below k (omega arith) K e)

  pub least_place : (least_child f n i ≡ i → ⊥) → (i < least_child f n i) × (least_child f n i < n) × (parent (least_child f n i) ≡ i)
  least_place a = ⊎_elim (λ e. absurd (a e)) (λ h. h) (least R).place

  pub sink_on : {g : ℕ → Entry} → (least_child f n i ≡ i → ⊥) → Swap f g i (least_child f n i) → Sinking g n (least_child f n i)
  sink_on {g} a S = record {
    here = rw S.right R.here;
    numbers = swap_all NumberGap S (omega (arith, at.0, at.1)) at.1 R.numbers;
    ordered = λ k K b. order k K b (ℕ_discrete k m) (ℕ_discrete k i) (ℕ_discrete (parent k) i);
    across = λ k K e M0. over k K e;
  }
    where
      m : ℕ
      m = least_child f n i

      at : (i < m) × (m < n) × (parent m ≡ i)
      at = least_place a

      L : Least f n i m
      L = least R

      order : (k : ℕ) → k < n → (parent k ≡ m → ⊥) → Dec (k ≡ m) → Dec (k ≡ i) → Dec (parent k ≡ i) → g (parent k) ≼ g k
      order k K b (yes e) d d' = rw (e, at.2) (moved L.upto S.left S.right)
      order k K b (no c) (yes e) d = rw e (above (ℕ_discrete i 0))
        where
          above : Dec (i ≡ 0) → g (parent i) ≼ g i
          above (yes z) = rw z (subst (λ (v : ℕ). g v ≼ g v) z (moved (upto_self (f m) L.upto.left) S.left S.left))
          above (no z) = moved (R.across m at.1 at.2 (omega (arith, at.0))) (S.rest (parent i) (λ y. omega (arith, at.0)) (λ y. omega (arith, at.0))) S.left
      order k K b (no c) (no d) (yes e) = moved (L.below k (omega (arith, at.0)) K e) (rw e S.left) (S.rest k d c)
      order k K b (no c) (no d) (no e) = moved (R.ordered k K e) (S.rest (parent k) e b) (S.rest k d c)

      over : (k : ℕ) → k < n → parent k ≡ m → g (parent m) ≼ g k
      over k K e = moved (rw e at (R.ordered k K (λ z. omega (arith, at.0)))) (rw at.2 S.left) (S.rest k (λ z. omega (arith, at.0)) (λ z. omega (arith, at.0)))

-- ---- one turn of each loop
module _ {M N N' : List ℕ} {F G G' : List Float} {n i : ℕ} (H : Moving M F n N G) (nodes : n ≤ length M) (gaps : n ≤ length F) where
  pub rise_turn : Rising (entry_at N G) n i → i < n → rises (entry_at N G) i ≡ true → N' ≡ exchanged 0 N i (parent i) → G' ≡ exchanged nan G i (parent i) → Moving M F n N' G' × Rising (entry_at N' G') n (parent i)
  rise_turn R I t e d =
      let up = rises_says (entry_at N G) i t in
      let S = exchanged_swap N G i (parent i) e d (omega (arith, H.nodes)) (omega (arith, H.gaps)) (omega (arith, H.nodes)) (omega (arith, H.gaps)) in
      (move_on H I (omega arith) e d S, rise_on R I up.0 up.1 S)

  pub sink_turn : (c : ℕ) → c ≡ least_child (entry_at N G) n i → (c ≡ i → ⊥) → Sinking (entry_at N G) n i → N' ≡ exchanged 0 N i c → G' ≡ exchanged nan G i c → Moving M F n N' G' × Sinking (entry_at N' G') n c
  sink_turn c z a R e d =
      let at = least_place R (rw z at a) in
      let S = exchanged_swap N G i c e d (omega (arith, H.nodes)) (omega (arith, H.gaps)) (omega (arith, H.nodes)) (omega (arith, H.gaps)) in
      (move_on H (omega arith) (omega arith) e d S, rw z (sink_on R (rw z at a) (rw z at S)))
