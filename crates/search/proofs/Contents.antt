-- Totals of weights: they tell which entries a heap has, and an exchange leaves them as they are. Assumes nothing.
use mathlib.Core.Path.{◌≡◌, refl, sym, ap, ap₂, ◌∙◌, subst}
use mathlib.Core.HLevel.{Discrete}
use mathlib.Core.Bool.{Bool-discrete, cond}
use mathlib.Core.List.{List}
use Prim.Native.Nat.{ℕ, zero, suc, ◌+◌, ◌<◌}
use native.Mathlib.Decide.{ℕ_discrete}
use native.Mathlib.Omega.{arith}
use borrow.Author.Tests.{eq-eqb, ne_eqb}
use lib.Dec.{eqb}
use lib.IntN.{ℤ_discrete}
use lib.ListN.{length, get_or, set, length-set}
use lib.Seq.{get_or-set_same, get_or-set_other}
use lib.Ieee.{Float, nan, inf, fin}
use Rattle.search.specs.declared.Entry.{Entry}
use Rattle.search.specs.Heap.{entry_at, total_weight}
use Rattle.search.specs.Sifts.{exchanged}

-- ---- g is f with the entries at i and j exchanged
pub record Swap (f g : ℕ → Entry) (i j : ℕ) : Type 0 where
  pub left : g i ≡ f j
  pub right : g j ≡ f i
  pub rest : (k : ℕ) → (k ≡ i → ⊥) → (k ≡ j → ⊥) → g k ≡ f k

exchanged_right : {A : Type 0} (d : A) (l : List A) (i j : ℕ) → j < length l → get_or (exchanged d l i j) j d ≡ get_or l i d
exchanged_right d l i j J = get_or-set_same (set l i (get_or l j d)) j (get_or l i d) d (rw length-set J)

exchanged_left : {A : Type 0} (d : A) (l : List A) (i j : ℕ) → i < length l → j < length l → get_or (exchanged d l i j) i d ≡ get_or l j d
exchanged_left d l i j I J = go (ℕ_discrete i j)
  where
    go : Dec (i ≡ j) → get_or (exchanged d l i j) i d ≡ get_or l j d
    go (yes e) = subst (λ (v : ℕ). get_or (exchanged d l i j) v d ≡ get_or l j d) (sym e) (exchanged_right d l i j J ∙ ap (λ (v : ℕ). get_or l v d) e)
    go (no e) = get_or-set_other (set l i (get_or l j d)) j i (get_or l i d) d e ∙ get_or-set_same l i (get_or l j d) d I

exchanged_rest : {A : Type 0} (d : A) (l : List A) (i j k : ℕ) → (k ≡ i → ⊥) → (k ≡ j → ⊥) → get_or (exchanged d l i j) k d ≡ get_or l k d
exchanged_rest d l i j k ki kj = get_or-set_other (set l i (get_or l j d)) j k (get_or l i d) d kj ∙ get_or-set_other l i k (get_or l j d) d ki

pub exchanged_swap : (N : List ℕ) (G : List Float) {N' : List ℕ} {G' : List Float} (i j : ℕ) → N' ≡ exchanged 0 N i j → G' ≡ exchanged nan G i j → i < length N → i < length G → j < length N → j < length G → Swap (entry_at N G) (entry_at N' G') i j
exchanged_swap N G i j n g iN iG jN jG = record {
  left = rw (n, g, exchanged_left 0 N i j iN jN, exchanged_left nan G i j iG jG);
  right = rw (n, g, exchanged_right 0 N i j jN, exchanged_right nan G i j jG);
  rest = λ k ki kj. rw (n, g, exchanged_rest 0 N i j k ki kj, exchanged_rest nan G i j k ki kj);
}

-- what holds of every entry still does
pub swap_all : (P : Entry → Type 0) {f g : ℕ → Entry} {i j n : ℕ} → Swap f g i j → i < n → j < n → ((k : ℕ) → k < n → P (f k)) → (k : ℕ) → k < n → P (g k)
swap_all P {f} {g} {i} {j} S I J h k K = go (ℕ_discrete k i) (ℕ_discrete k j)
  where
    go : Dec (k ≡ i) → Dec (k ≡ j) → P (g k)
    go (yes e) d = rw (e, S.left) (h j J)
    go (no a) (yes e) = rw (e, S.right) (h i I)
    go (no a) (no b) = rw (S.rest k a b) (h k K)

-- ---- totals
module _ (w : Entry → ℕ) where
  pub total_same : {f g : ℕ → Entry} (n : ℕ) → ((k : ℕ) → k < n → g k ≡ f k) → total_weight w g n ≡ total_weight w f n
  unfolding total_weight
  total_same zero h = refl
  total_same (suc n) h = rw (total_same n (λ k K. h k (omega arith)), h n (omega arith))

  -- where only the entry at i is another
  total_put : {f g : ℕ → Entry} (i n : ℕ) → ((k : ℕ) → (k ≡ i → ⊥) → g k ≡ f k) → i < n → total_weight w g n + w (f i) ≡ total_weight w f n + w (g i)
  unfolding total_weight
  total_put i zero h I = absurd (omega arith)
  total_put {f} {g} i (suc n) h I = go (ℕ_discrete i n) (total_put {f = f} {g = g} i n h)
    where
      go : Dec (i ≡ n) → (i < n → total_weight w g n + w (f i) ≡ total_weight w f n + w (g i)) → total_weight w g (suc n) + w (f i) ≡ total_weight w f (suc n) + w (g i)
      go (yes e) ih =
          let same = total_same {f = f} {g = g} n (λ k K. h k (λ z. omega arith)) in
          let a = ap (λ (v : ℕ). w (f v)) e in
          let b = ap (λ (v : ℕ). w (g v)) e in
          omega arith
      go (no e) ih =
          let less = ih (omega arith) in
          let last = ap w (h n (λ z. e (sym z))) in
          omega arith

  pub total_swap : {f g : ℕ → Entry} {i j : ℕ} (n : ℕ) → Swap f g i j → i < n → j < n → total_weight w g n ≡ total_weight w f n
  total_swap {f} {g} {i} {j} n S I J =
      let one = total_put {f = f} {g = half} i n (λ k a. half_rest k a) I in
      let two = total_put {f = half} {g = g} j n (λ k a. after k a (ℕ_discrete k i)) J in
      let p = ap w half_left in
      let q = ap w (half_right (ℕ_discrete j i)) in
      let r = ap w S.right in
      omega arith
    where
      half : ℕ → Entry
      half k = cond (eqb k i) (f j) (f k)

      half_left : half i ≡ f j
      half_left = rw (eq-eqb i i refl)

      half_rest : (k : ℕ) → (k ≡ i → ⊥) → half k ≡ f k
      half_rest k a = rw (ne_eqb k i a)

      half_right : Dec (j ≡ i) → half j ≡ f j
      half_right (yes e) = rw (eq-eqb j i e)
      half_right (no a) = half_rest j a

      after : (k : ℕ) → (k ≡ j → ⊥) → Dec (k ≡ i) → g k ≡ half k
      after k b (yes e) = rw (eq-eqb k i e, e) S.left
      after k b (no a) = S.rest k a b ∙ sym (half_rest k a)

-- ---- which entries a heap has, told by the weights
float_same : Discrete Float
float_same nan nan = yes refl
float_same nan (inf t) = no (λ e. let z : ◌≡◌ {A = ℕ} 0 1 = cc in omega arith)
float_same nan (fin t n d) = no (λ e. let z : ◌≡◌ {A = ℕ} 0 1 = cc in omega arith)
float_same (inf s) nan = no (λ e. let z : ◌≡◌ {A = ℕ} 0 1 = cc in omega arith)
float_same (inf s) (inf t) = go (Bool-discrete s t)
  where
    go : Dec (s ≡ t) → Dec (inf s ≡ inf t)
    go (yes e) = yes (ap inf e)
    go (no a) = no (λ e. a (cc))
float_same (inf s) (fin t n d) = no (λ e. let z : ◌≡◌ {A = ℕ} 0 1 = cc in omega arith)
float_same (fin s m e) nan = no (λ e. let z : ◌≡◌ {A = ℕ} 0 1 = cc in omega arith)
float_same (fin s m e) (inf t) = no (λ e. let z : ◌≡◌ {A = ℕ} 0 1 = cc in omega arith)
float_same (fin s m e) (fin t n d) = go (Bool-discrete s t) (ℕ_discrete m n) (ℤ_discrete e d)
  where
    go : Dec (s ≡ t) → Dec (m ≡ n) → Dec (e ≡ d) → Dec (fin s m e ≡ fin t n d)
    go (yes p) (yes q) (yes r) = yes (cc)
    go (no a) q r = no (λ z. a (cc))
    go (yes p) (no a) r = no (λ z. a (cc))
    go (yes p) (yes q) (no a) = no (λ z. a (cc))

entry_same : Discrete Entry
entry_same x y = go (float_same x.gap y.gap) (ℕ_discrete x.node y.node)
  where
    go : Dec (x.gap ≡ y.gap) → Dec (x.node ≡ y.node) → Dec (x ≡ y)
    go (yes p) (yes q) = yes (ap₂ (λ (g : Float) (n : ℕ). record { gap = g; node = n }) p q)
    go (no a) q = no (λ e. a (ap (λ (v : Entry). v.gap) e))
    go (yes p) (no a) = no (λ e. a (ap (λ (v : Entry). v.node) e))

-- 1 for y, and 0 for every other entry
abbrev one_for : {x y : Entry} → Dec (x ≡ y) → ℕ
one_for (yes e) = 1
one_for (no a) = 0

abbrev is_one : Entry → Entry → ℕ
is_one y x = one_for (entry_same x y)

one_self : (y : Entry) → is_one y y ≡ 1
one_self y = go (entry_same y y)
  where
    go : (d : Dec (y ≡ y)) → one_for d ≡ 1
    go (yes e) = refl
    go (no a) = absurd (a refl)

counted : (f : ℕ → Entry) (n k : ℕ) → k < n → 0 < total_weight (is_one (f k)) f n
unfolding total_weight
counted f zero k K = absurd (omega arith)
counted f (suc n) k K = go (ℕ_discrete k n) (counted f n k)
  where
    go : Dec (k ≡ n) → (k < n → 0 < total_weight (is_one (f k)) f n) → 0 < total_weight (is_one (f k)) f (suc n)
    go (yes e) ih = rw e (omega (arith, one_self (f n)))
    go (no a) ih = omega (arith, ih (omega arith))

-- what holds of the first n entries holds of each that counts among them
counts_say : (P : Entry → Type 0) (f : ℕ → Entry) (n : ℕ) (y : Entry) → ((k : ℕ) → k < n → P (f k)) → 0 < total_weight (is_one y) f n → P y
unfolding total_weight
counts_say P f zero y h l = absurd (omega arith)
counts_say P f (suc n) y h l = go (entry_same (f n) y) refl (counts_say P f n y (λ k K. h k (omega arith)))
  where
    go : (d : Dec (f n ≡ y)) → is_one y (f n) ≡ one_for d → (0 < total_weight (is_one y) f n → P y) → P y
    go (yes e) q ih = subst P e (h n (omega arith))
    go (no a) q ih = ih (omega (arith, q))

-- where every weight's total of g is that of f and of x, what holds of all of f and of x holds of all of g
pub more_all : (P : Entry → Type 0) (f g : ℕ → Entry) {m n : ℕ} {x : Entry} → ((w : Entry → ℕ) → total_weight w g m ≡ total_weight w f n + w x) → ((k : ℕ) → k < n → P (f k)) → P x → (k : ℕ) → k < m → P (g k)
more_all P f g {m} {n} {x} e h p k K = go (entry_same x (g k)) refl
  where
    go : (d : Dec (x ≡ g k)) → is_one (g k) x ≡ one_for d → P (g k)
    go (yes q) z = subst P q p
    go (no a) z = counts_say P f n (g k) h (omega (arith, counted g m k K, e (is_one (g k)), z))

-- and the other way round
pub less_all : (P : Entry → Type 0) (f g : ℕ → Entry) {m n : ℕ} {x : Entry} → ((w : Entry → ℕ) → total_weight w g m ≡ total_weight w f n + w x) → ((k : ℕ) → k < m → P (g k)) → ((k : ℕ) → k < n → P (f k)) × P x
less_all P f g {m} {n} {x} e h = (
  λ k K. counts_say P g m (f k) h (omega (arith, counted f n k K, e (is_one (f k)))),
  counts_say P g m x h (omega (arith, e (is_one x), one_self x)),
)
