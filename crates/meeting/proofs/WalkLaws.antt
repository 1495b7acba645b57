-- Runs of stores from a place on, past the end too, and one level of a walk. Assumes nothing.
use mathlib.Core.Path.{◌≡◌, refl, sym, ap, ◌∙◌}
use mathlib.Core.List.{List, [], ◌∷◌, ◌++◌}
use Prim.Native.Nat.{ℕ, zero, suc, ◌+◌, ◌-◌, ◌≤◌, ◌<◌, min}
use native.Mathlib.Decide.{dec_le}
use native.Mathlib.Numerals.{add-one}
use native.Mathlib.Omega.{arith}
use mathlib.Core.Bool.{true, false, cond}
use lib.Dec.{ltb}
use lib.ListN.{length, set, length-set, length-append}
use lib.Seq.{sets, length-sets, set_out}
use borrow.Author.Tests.{lt-ltb, le-ltb}
use Rattle.boundary.specs.declared.Bounds.{Bounds}
use Rattle.lists.proofs.RunLaws.{run_last}
use Rattle.lists.specs.Lists.{run}
use Rattle.accept.specs.Answers.{Outcome}
use Rattle.nodes.specs.Layout.{item_at, first_at, count_at}
use Rattle.index.specs.Buffer.{IndexBuffer, node_box, leaf_items}
use Rattle.lists.proofs.StoreLaws.{sets_append}
use Rattle.meeting.specs.Meeting.{apart}
use Rattle.meeting.specs.Walk.{hits, put_from}

-- ---- stores past the end change nothing
sets_out : (l : List ℕ) (i : ℕ) (vs : List ℕ) → length l ≤ i → sets l i vs ≡ l
sets_out l i [] h = refl
sets_out l i (v ∷ vs) h = sets_out (set l i v) (suc i) vs (rw length-set (omega arith)) ∙ set_out l i v h

-- a place past the end is as good as the end
sets_min : (l : List ℕ) (i j : ℕ) (vs : List ℕ) → j ≡ min (length l) i → sets l j vs ≡ sets l i vs
sets_min l i j vs e = go (dec_le i (length l))
  where
    go : Dec (i ≤ length l) → sets l j vs ≡ sets l i vs
    go (yes h) = ap (λ (k : ℕ). sets l k vs) (omega arith)
    go (no h) = sets_out l j vs (omega arith) ∙ sym (sets_out l i vs (omega arith))

-- ---- xs put into l from k on gives m, and r is the place after them
abbrev pub Puts : List ℕ → ℕ → List ℕ → List ℕ → ℕ → Type 0
Puts l k xs m r = ◌≡◌ {A = Outcome ℕ (List ℕ)} (record { answer = r; lent = m }) (put_from l k xs)

pub put_list : (l : List ℕ) (k : ℕ) (xs m : List ℕ) (r : ℕ) → Puts l k xs m r → m ≡ sets l k xs
unfolding put_from
put_list l k xs m r p = ap (λ (o : Outcome ℕ (List ℕ)). o.lent) p

pub put_place : (l : List ℕ) (k : ℕ) (xs m : List ℕ) (r : ℕ) → Puts l k xs m r → r ≡ min (length l) (k + length xs)
unfolding put_from
put_place l k xs m r p = ap (λ (o : Outcome ℕ (List ℕ)). o.answer) p

pub puts : (l : List ℕ) (k : ℕ) (xs m : List ℕ) (r : ℕ) → m ≡ sets l k xs → r ≡ min (length l) (k + length xs) → Puts l k xs m r
unfolding put_from
puts l k xs m r list place = rw (list, place)

-- as long as before, and the place after them is in it or at its end
pub put_within : (l : List ℕ) (k : ℕ) (xs m : List ℕ) (r : ℕ) → Puts l k xs m r → r ≤ length m
put_within l k xs m r p =
    let same : length m ≡ length l = ap length (put_list l k xs m r p) ∙ length-sets l k xs in
    let e = put_place l k xs m r p in
    omega arith

-- two runs, one after the other
pub two_runs : (l m n : List ℕ) (k j r : ℕ) (xs ys : List ℕ) → Puts l k xs m j → Puts m j ys n r → Puts l k (xs ++ ys) n r
two_runs l m n k j r xs ys p q =
    let e = put_list l k xs m j p in
    let same : length m ≡ length l = ap length e ∙ length-sets l k xs in
    let a = length-append xs ys in
    let u = put_place l k xs m j p in
    let v = put_place m j ys n r q in
    puts l k (xs ++ ys) n r
    (put_list m j ys n r q ∙ sets_min m (k + length xs) j ys (omega arith) ∙ ap (λ (x : List ℕ). sets x (k + length xs) ys) e ∙ sets_append l k xs ys)
    (omega arith)

pub no_run : (l : List ℕ) (k : ℕ) → k ≤ length l → Puts l k [] l k
no_run l k h = puts l k [] l k refl (omega arith)

-- one item more of a leaf
pub next_item : (g : ℕ → ℕ) (f i : ℕ) (l m n : List ℕ) (k j r x : ℕ) → Puts l k (run g f i) m j → x ≡ g (f + i) → Puts m j (x ∷ []) n r
    → Puts l k (run g f (i + 1)) n r
next_item g f i l m n k j r x p e q = rw (add-one i, run_last g f i, ← e) (two_runs l m n k j r (run g f i) (x ∷ []) p q)

pub same_run : (l m xs ys : List ℕ) (k r : ℕ) → xs ≡ ys → Puts l k xs m r → Puts l k ys m r
same_run l m xs ys k r e p = rw e at p

-- ---- one level
suc_of : (d : ℕ) → (d ≡ 0 → ⊥) → suc (d - 1) ≡ d
suc_of zero h = absurd (h refl)
suc_of (suc d) h = omega arith

module _ (B : IndexBuffer) (c : Bounds) (n : ℕ) where
  pub hits_level : (d : ℕ)
      → hits (suc d) B c n
      ≡ cond (apart (node_box B n) c) []
      (cond (ltb 0 (count_at B.links n)) (leaf_items B n) (hits d B c (first_at B.links n) ++ hits d B c (first_at B.links n + 1)))
  unfolding hits
  hits_level d = refl

  pub hits_none : (d : ℕ) → d ≡ 0 → [] ≡ hits d B c n
  unfolding hits
  hits_none d e = rw e

  pub hits_apart : (d : ℕ) → apart (node_box B n) c ≡ true → [] ≡ hits d B c n
  hits_apart zero e = hits_none 0 refl
  hits_apart (suc d) e = rw (hits_level d, e)

  -- with its links read
  module _ (d f k : ℕ) (some : d ≡ 0 → ⊥) (meets : apart (node_box B n) c ≡ false)
      (ef : f ≡ first_at B.links n) (ek : k ≡ count_at B.links n) where
    pub hits_leaf : 0 < k → run (item_at B.items) f k ≡ hits d B c n
    hits_leaf h = rw (← suc_of d some, hits_level (d - 1), meets, lt-ltb 0 (count_at B.links n) (omega arith), ef, ek)

    pub hits_inner : k ≤ 0 → hits (d - 1) B c f ++ hits (d - 1) B c (f + 1) ≡ hits d B c n
    hits_inner h =
        let z : suc (d - 1) - 1 ≡ d - 1 = omega arith in
        rw (← suc_of d some, z, hits_level (d - 1), meets, le-ltb 0 (count_at B.links n) (omega arith), ef)
