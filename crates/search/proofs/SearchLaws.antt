-- The search: every outline is below a node that waits, or the best is at most it. So where nothing waits, or the least gap is above `far`, the best is the least of all. Assumes nothing.
use mathlib.Core.Path.{◌≡◌, sym, ap, ◌∙◌, subst}
use mathlib.Core.Bool.{true, false}
use mathlib.Core.List.{List}
use Prim.Native.Nat.{ℕ, zero, suc, ◌+◌, ◌-◌, ◌≤◌, ◌<◌}
use native.Mathlib.Decide.{ℕ_discrete}
use native.Mathlib.Omega.{arith}
use lib.Dec.{T}
use lib.Ieee.{Float, inf, lt, le}
use lib.Ieee.Bits.{is_true}
use Rattle.number.proofs.OrderLaws.{le_self, right_not_nan, below_through, below_le, below_not_le}
use Rattle.boundary.specs.declared.Point.{Point}
use Rattle.lists.proofs.MemberLaws.{times_append}
use Rattle.lists.specs.Lists.{times, In}
use Rattle.search.specs.declared.Entry.{Entry}
use Rattle.search.specs.Heap.{Heaped, total_weight, Pushed, Popped}
use Rattle.search.proofs.HeapLaws.{all_kept, all_left, popped_gap}
use Rattle.tree.specs.Tree.{items_of}
use Rattle.nodes.specs.Layout.{extra, first_at, count_at}
use Rattle.index.specs.Buffer.{IndexBuffer, node_box, leaf_items}
use Rattle.boundary.proofs.AroundLaws.{NotNan}
use Rattle.search.specs.declared.Best.{Best}
use Rattle.search.specs.declared.Kept.{Kept}
use Rattle.search.specs.Walk.{Clear, best_of, entry_for, Opened}
use Rattle.search.proofs.LeastLaws.{Upto, Among, BestIs, best_is, LeastOutline}
use Rattle.search.proofs.GapLaws.{Gapped, Nearby}
use Rattle.search.proofs.WaitLaws.{tree_at, Waits, waits_items, waits_root, Children, waits_children}

-- a total is positive where one of the weights is
total_some : (w : Entry → ℕ) (f : ℕ → Entry) (n : ℕ) (A : Type 0) → ((k : ℕ) → k < n → 0 < w (f k) → A) → 0 < total_weight w f n → A
unfolding total_weight
total_some w f zero A h l = absurd (omega arith)
total_some w f (suc n) A h l = go (ℕ_discrete (w (f n)) 0) (total_some w f n A (λ k K. h k (omega arith)))
  where
    go : Dec (w (f n) ≡ 0) → (0 < total_weight w f n → A) → A
    go (yes e) ih = ih (omega arith)
    go (no a) ih = h n (omega arith) (omega arith)

module _ (B : IndexBuffer) (d : ℕ) (p : Point) (D : ℕ → Float) (n : ℕ) where
  abbrev pub ReadyNode : Entry → Type 0
  ReadyNode x = Waits B d p (Nearby D n p) x

  abbrev pub node_entry : ℕ → Entry
  node_entry k = entry_for B.corners p k

  -- how many nodes an entry stands for, and how often i is below it
  unfoldable pub size_of : Entry → ℕ
  size_of x = 1 + extra (tree_at B d x.node)

  unfoldable pub holds_of : ℕ → Entry → ℕ
  holds_of i x = times i (items_of (tree_at B d x.node))

  pub record Searching (f : ℕ → Entry) (m : ℕ) (kept : Kept) : Type 0 where
    pub heaped : Heaped f m
    pub few : total_weight size_of f m ≤ 511
    pub ready : (k : ℕ) → k < m → ReadyNode (f k)
    pub among : Among D n kept.best
    pub clear : Clear p kept
    -- what is below no node that waits was looked at
    pub cover : (i : ℕ) → i < n → total_weight (holds_of i) f m ≡ 0 → Upto D kept.best i

  -- as many entries as nodes at most
  entries_few : (f : ℕ → Entry) (m : ℕ) → m ≤ total_weight size_of f m
  unfolding total_weight size_of
  entries_few f zero = omega arith
  entries_few f (suc m) = let h = entries_few f m in omega arith

  pub searching_few : {f : ℕ → Entry} {m : ℕ} {kept : Kept} → Searching f m kept → m ≤ 511
  searching_few {f} {m} S = let h = entries_few f m in let g = S.few in omega arith

  -- ---- the root alone
  pub searching_first : {f g : ℕ → Entry} {kept : Kept} → Pushed f 0 (node_entry 0) g → ReadyNode (node_entry 0) → size_of (node_entry 0) ≤ 511 → ((i : ℕ) → i < n → 0 < holds_of i (node_entry 0)) → Among D n kept.best → Clear p kept → Searching g 1 kept
  unfolding total_weight
  searching_first {f} {g} H R s h b c = record {
    heaped = H.heaped;
    few = let e = H.contents size_of in omega arith;
    ready = all_kept ReadyNode H (λ k K. absurd (omega arith)) R;
    among = b;
    clear = c;
    cover = λ i l z. let e = H.contents (holds_of i) in let k = h i l in absurd (omega arith);
  }

  -- ---- one is taken
  module _ {f g : ℕ → Entry} {m : ℕ} {x : Entry} {kept : Kept} (S : Searching f m kept) (H : Popped f m x g) where
    popped_ready : ((k : ℕ) → k < m - 1 → ReadyNode (g k)) × ReadyNode x
    popped_ready = all_left ReadyNode H S.ready

    pub popped_less : total_weight size_of g (m - 1) < total_weight size_of f m
    unfolding size_of
    popped_less = let e = H.contents size_of in omega arith

    -- its items are outlines
    item_gap : (i : ℕ) → 0 < holds_of i x → Gapped D n p (node_box B x.node) i
    unfolding holds_of
    item_gap i h = waits_root B d p (Nearby D n p) x popped_ready.1 i h

    -- a leaf's items are looked at
    module _ (N : (k : ℕ) → k ≤ n → NotNan (D k)) (leaf : 0 < count_at B.links x.node) where
      abbrev looked : List ℕ
      looked = leaf_items B x.node

      items_are : items_of (tree_at B d x.node) ≡ looked
      items_are = waits_items B d p (Nearby D n p) x popped_ready.1 leaf

      pub looked_within : (i : ℕ) → In i looked → i < n
      unfolding holds_of
      looked_within i h = (item_gap i (rw items_are h)).within

      pub searching_leaf : {r : Kept} → r.best ≡ best_of D kept.best looked → Clear p r → Searching g (m - 1) r
      unfolding holds_of
      searching_leaf {r} e C =
          let b : BestIs D n kept.best looked r.best = rw e (best_is D n N looked (λ i h. let l = looked_within i h in omega arith) kept.best S.among) in
          record {
            heaped = H.heaped;
            few = let a = S.few in let c = popped_less in omega arith;
            ready = popped_ready.0;
            among = b.among;
            clear = C;
            cover = λ i l z. go i l z b (ℕ_discrete (times i looked) 0);
          }
        where
          go : (i : ℕ) → i < n → total_weight (holds_of i) g (m - 1) ≡ 0 → BestIs D n kept.best looked r.best → Dec (times i looked ≡ 0) → Upto D r.best i
          go i l z b (yes y) = let c = H.contents (holds_of i) in let a = ap (times i) items_are in b.old i (S.cover i l (omega arith))
          go i l z b (no a) = b.new i (omega arith)

    -- an inner node gives way to its children
    module _ (none : count_at B.links x.node ≡ 0) where
      parts : Children B d p (Nearby D n p) x.node (first_at B.links x.node)
      parts = waits_children B d p (Nearby D n p) x popped_ready.1 none

      pub children_small : first_at B.links x.node + 2 ≤ 511
      children_small = parts.small

      module _ {k : ℕ → Entry} (O : Opened g (m - 1) (node_entry (first_at B.links x.node)) (node_entry (first_at B.links x.node + 1)) k) where
        all : (w : Entry → ℕ) → total_weight w k (m - 1 + 1 + 1) ≡ total_weight w g (m - 1) + w (node_entry (first_at B.links x.node)) + w (node_entry (first_at B.links x.node + 1))
        all w = let a = O.first.contents w in let b = O.second.contents w in omega arith

        three : m - 1 + 1 + 1 ≡ m - 1 + 2
        three = omega arith

        pub opened_less : total_weight size_of k (m - 1 + 2) < total_weight size_of f m
        unfolding size_of
        opened_less = let a = rw three at (all size_of) in let b = H.contents size_of in let c = parts.size in omega arith

        pub searching_inner : Searching k (m - 1 + 2) kept
        unfolding holds_of
        searching_inner = record {
          heaped = rw three at O.second.heaped;
          few = let a = S.few in let c = opened_less in omega arith;
          ready = λ j J. all_kept ReadyNode O.second (all_kept ReadyNode O.first popped_ready.0 parts.first) parts.second j (omega arith);
          among = S.among;
          clear = S.clear;
          cover = λ i l z.
              let a = rw three at (all (holds_of i)) in
              let b = H.contents (holds_of i) in
              let c = ap (times i) parts.items in
              let e = times_append i (items_of (tree_at B d (first_at B.links x.node))) (items_of (tree_at B d (first_at B.links x.node + 1))) in
              S.cover i l (omega arith);
        }

    -- what is below a node that waits is farther where the least gap is above `far`
    module _ (above : lt kept.far x.gap ≡ true) where
      farther : (y : Entry) → ReadyNode y → T (le x.gap y.gap) → (i : ℕ) → 0 < holds_of i y → Upto D kept.best i
      unfolding holds_of
      farther y w h i l =
          let far : lt kept.far y.gap ≡ true = is_true (lt kept.far y.gap) (below_through kept.far x.gap y.gap (subst T (sym above) tt) h) in
          let q = (waits_root B d p (Nearby D n p) y w i l).beyond kept S.clear (rw w.gap at far) in
          record { least = below_le kept.best.distance (D i) q; first = λ u. absurd (below_not_le kept.best.distance (D i) (subst T (sym q) tt) u) }

      pub upto_above : (i : ℕ) → i < n → Upto D kept.best i
      upto_above i l = go (ℕ_discrete (holds_of i x) 0) (ℕ_discrete (total_weight (holds_of i) g (m - 1)) 0)
        where
          self : T (le x.gap x.gap)
          self = le_self x.gap (right_not_nan kept.far x.gap (below_le kept.far x.gap above))

          go : Dec (holds_of i x ≡ 0) → Dec (total_weight (holds_of i) g (m - 1) ≡ 0) → Upto D kept.best i
          go (no a) t = farther x popped_ready.1 self i (omega arith)
          go (yes e) (no a) = total_some (holds_of i) g (m - 1) (Upto D kept.best i) (λ k K. farther (g k) (popped_ready.0 k K) (popped_gap H k K) i) (omega arith)
          go (yes e) (yes z) = let c = H.contents (holds_of i) in S.cover i l (omega arith)

  -- nothing waits
  pub upto_none : {f : ℕ → Entry} {m : ℕ} {kept : Kept} → Searching f m kept → m ≤ 0 → (i : ℕ) → i < n → Upto D kept.best i
  unfolding total_weight
  upto_none {f} {m} S z i l = let e : m ≡ 0 = omega arith in S.cover i l (ap (total_weight (holds_of i) f) e)

  -- THE END: the best is the least
  pub search_least : {best : Best} → 0 < n → lt (D 0) (inf false) ≡ true → D n ≡ inf false → Among D n best → ((i : ℕ) → i < n → Upto D best i) → LeastOutline D n best
  search_least {best} s finite past A u = record { within = place (ℕ_discrete best.outline n); is = A.is; upto = u }
    where
      place : Dec (best.outline ≡ n) → best.outline < n
      place (no a) = let w = A.within in omega arith
      place (yes e) =
          let same : best.distance ≡ inf false = A.is ∙ ap D e ∙ past in
          absurd (below_not_le (D 0) (inf false) (subst T (sym finite) tt) (rw same at (u 0 s).least))
