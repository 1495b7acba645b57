-- What building over a whole list leaves, and what a list that passes the tests has. Assumes nothing.
use Rattle.std.proofs.Common.{Ok, Err}
use mathlib.Core.Path.{◌≡◌, refl, sym, ap, subst, ◌∙◌}
use mathlib.Core.Bool.{Bool, true, false, not, ◌||◌, true≢false}
use mathlib.Core.List.{List, [], ◌∷◌, ◌++◌, flat_map}
use Prim.Native.Nat.{ℕ, ◌+◌, ◌*◌, ◌%◌, ◌≤◌}
use native.Mathlib.Omega.{arith}
use lib.Dec.{leb, eqb, ltb}
use lib.ListN.{length, take, drop, length-replicate}
use lib.Seq.{length-take-le, take_at, drop_at, sets}
use lib.Ieee.{Float}
use borrow.Author.Tests.{ltb-false, eqb-true, le-ltb}
use Rattle.boundary.specs.declared.Bounds.{Bounds}
use Rattle.lists.specs.Lists.{run, any, at_front, zeros}
use Rattle.sorts.specs.Sort.{sort, Sorted}
use Rattle.sorts.proofs.PartLaws.{sort_sorted, run_ascends}
use Rattle.accept.specs.declared.Refusal.TheVariants.{TooMany, BadBox, ShortBuffer}
use Rattle.accept.specs.declared.Refusal.{Refusal}
use Rattle.number.specs.Exact.{zeroᶠ}
use Rattle.accept.specs.Answers.{in_fields, Outcome, Fields}
use Rattle.accept.specs.Refusals.{Answer, Test, all_passed, ◌refusing◌when◌}
use Rattle.accept.proofs.TestLaws.{refusing_passed}
use Rattle.boxes.specs.BoxLists.{box_count, box_numbers, boxes_of, wide_at, centre_of}
use Rattle.tree.specs.Tree.{Tree, leaf, hull_of, tree_in, index_of, items_of}
use Rattle.nodes.specs.Layout.{extra, node_of, nodes_below, nodes_of, corners_of, links_of, Grown}
use Rattle.boundary.specs.Boxes.{box_fits}
use Rattle.index.specs.declared.TreeSize.{TreeSize}
use Rattle.index.specs.Buffer.{IndexBuffer, buffer, short_sizes, short_buffer, holding, grown, cleared}
use Rattle.index.specs.Answers.{boxes_tested, build_tested, build_outcome, build_fields_of, build_call, Accepted}
use Rattle.lists.proofs.StoreLaws.{sets_front, flat_length}
use Rattle.lists.proofs.RunLaws.{length_run}
use Rattle.boxes.proofs.EntryLaws.{wide_held, centres_held}
use Rattle.tree.proofs.TreeLaws.{tree_leaf, length_items}
use Rattle.nodes.proofs.LayoutLaws.{length_below, nodes_suffice, placed_front}
use Rattle.lists.proofs.FrontLaws.{front_front}
use Rattle.lists.proofs.FoldLaws.{or_none}

-- the first k of a list that begins with F
pub front_of : {A : Type 0} (s₀ s F : List A) (k : ℕ) → s ≡ sets s₀ 0 F → length F ≡ k → k ≤ length s₀ → take k s ≡ F
front_of s₀ s F k e l h = rw (e, sets_front s₀ F (omega arith)) (take_at F (drop (length F) s₀) k l)

pub numbers_ascend : (is₀ is₁ : List ℕ) (n : ℕ) → n ≤ length is₀ → is₁ ≡ run (λ i. i) 0 (length (take n is₀)) → Sorted leb (take n (is₁ ++ drop n is₀))
numbers_ascend is₀ is₁ n h e =
    let k = length-take-le n is₀ h in
    let m : length is₁ ≡ n = ap length e ∙ length_run (λ i. i) 0 (length (take n is₀)) ∙ k in
    rw (take_at is₁ (drop n is₀) n m, e) (run_ascends 0 (length (take n is₀)))

-- a buffer, and what building leaves, list by list
pub same_buffer : {C D : List Float} {L K I J : List ℕ} → C ≡ D → L ≡ K → I ≡ J → buffer C L I ≡ buffer D K J
same_buffer corners links items = rw (corners, links, items)

left_by : {r s : ℕ} {B D : IndexBuffer} → r ≡ s → B ≡ D → ◌≡◌ {A = Outcome ℕ IndexBuffer} (record { answer = r; lent = B }) (record { answer = s; lent = D })
left_by nodes lent = rw (nodes, lent)

-- and back: how many nodes there are, and what the buffer holds
pub grown_nodes : (t : Tree) (B : IndexBuffer) {o : Outcome ℕ IndexBuffer} → o ≡ grown t B → o.answer ≡ length (nodes_of t)
unfolding grown
grown_nodes t B e = ap (λ (p : Outcome ℕ IndexBuffer). p.answer) e

pub grown_lent : (t : Tree) (B : IndexBuffer) {o : Outcome ℕ IndexBuffer} → o ≡ grown t B → o.lent ≡ holding t B
unfolding grown
grown_lent t B e = ap (λ (p : Outcome ℕ IndexBuffer). p.lent) e

module _ (v : List Float) where
  abbrev n : ℕ
  n = box_count v

  abbrev numbers : List ℕ
  numbers = run (λ i. i) 0 n

  pub length_index_items : length (items_of (index_of v)) ≡ n
  unfolding index_of
  length_index_items = length_items (wide_at v) (λ i. centre_of (wide_at v i)) numbers ∙ length_run (λ i. i) 0 n

  pub index_nodes : n ≤ 1024 → length (nodes_of (index_of v)) ≤ 511
  unfolding index_of
  index_nodes h = nodes_suffice (wide_at v) (λ i. centre_of (wide_at v i)) numbers (rw (length_run (λ i. i) 0 n) h)

  module _ (whole : length v % 4 ≡ 0) (W₀ W X₀ X Y₀ Y : List Float)
      (e_w : W ≡ sets W₀ 0 (flat_map box_numbers (run (wide_at v) 0 n))) (eX : X ≡ sets X₀ 0 (run (λ i. (centre_of (wide_at v i)).x) 0 n)) (eY : Y ≡ sets Y₀ 0 (run (λ i. (centre_of (wide_at v i)).y) 0 n))
      (lW : 4 * n ≤ length W₀) (lX : n ≤ length X₀) (lY : n ≤ length Y₀) where
    -- the tree over what the lists hold is the index
    held_tree : tree_in (take (4 * n) W) (take n X) (take n Y) numbers ≡ index_of v
    unfolding index_of
    held_tree =
        let b = flat_length box_numbers 4 (λ _. refl) (run (wide_at v) 0 n) in
        let l = length_run (wide_at v) 0 n in
        let w = front_of W₀ W (flat_map box_numbers (run (wide_at v) 0 n)) (4 * n) e_w (omega arith) lW in
        let x = front_of X₀ X (run (λ i. (centre_of (wide_at v i)).x) 0 n) n eX (length_run (λ i. (centre_of (wide_at v i)).x) 0 n) lX in
        let y = front_of Y₀ Y (run (λ i. (centre_of (wide_at v i)).y) 0 n) n eY (length_run (λ i. (centre_of (wide_at v i)).y) 0 n) lY in
        rw (w, x, y, wide_held v whole, centres_held v whole)

    pub grown_all : (C C' : List Float) (L L' is₀ is₁ Z : List ℕ) (r : ℕ) → n ≤ 1024 → 2044 ≤ length C → 1022 ≤ length L → 1024 ≤ length is₀
        → is₁ ≡ run (λ i. i) 0 (length (take n is₀))
        → Grown (tree_in (take (4 * n) W) (take n X) (take n Y) (take n (is₁ ++ drop n is₀))) 0 0 1 C L r Z C' L'
        → record { answer = r; lent = buffer C' L' (Z ++ drop n (is₁ ++ drop n is₀)) } ≡ grown (index_of v) (buffer C L is₀)
    unfolding grown holding at_front nodes_of
    grown_all C C' L L' is₀ is₁ Z r small c l i e g =
        let f : is₁ ≡ numbers = e ∙ ap (λ (k : ℕ). run (λ i. i) 0 k) (length-take-le n is₀ (omega arith)) in
        let m : length is₁ ≡ n = ap length f ∙ length_run (λ i. i) 0 n in
        let t : Grown (index_of v) 0 0 1 C L r Z C' L' = rw (take_at is₁ (drop n is₀) n m, f, held_tree) at g in
        let k = index_nodes small in
        let free : r ≡ 1 + extra (index_of v) = t.free in
        let nodes_below = length_below (index_of v) 0 1 in
        left_by (omega arith) (same_buffer
        (t.corners ∙ placed_front corners_of 4 (λ _. refl) (index_of v) C (omega arith))
        (t.links ∙ placed_front links_of 2 (λ _. refl) (index_of v) L (omega arith))
        (rw (drop_at is₁ (drop n is₀) n m, t.items, length_index_items)))

-- a leaf, put
leaf_put : (b : Bounds) (is : List ℕ) (C C' : List Float) (L L' I I' : List ℕ) → 4 ≤ length C → 2 ≤ length L → C' ≡ sets C 0 (box_numbers b) → L' ≡ sets L 0 (0 ∷ length is ∷ []) → I' ≡ is ++ drop (length is) I
    → record { answer = 1; lent = buffer C' L' I' } ≡ grown (leaf b is) (buffer C L I)
unfolding grown holding at_front nodes_of node_of nodes_below items_of flat_map
leaf_put b is C C' L L' I I' c l ec el ei = left_by refl (same_buffer (ec ∙ sets_front C (box_numbers b) c) (el ∙ sets_front L (0 ∷ length is ∷ []) l) ei)

-- four boxes at most are one leaf
pub leaf_grown : (v C C' : List Float) (L L' is₀ is₁ : List ℕ) → box_count v ≤ 4 → 2044 ≤ length C → 1022 ≤ length L → 1024 ≤ length is₀
    → C' ≡ sets C 0 (box_numbers (hull_of (wide_at v) (run (λ i. i) 0 (box_count v)))) → L' ≡ sets L 0 (0 ∷ box_count v ∷ []) → is₁ ≡ run (λ i. i) 0 (length (take (box_count v) is₀))
    → record { answer = 1; lent = buffer C' L' (is₁ ++ drop (box_count v) is₀) } ≡ grown (index_of v) (buffer C L is₀)
unfolding index_of
leaf_grown v C C' L L' is₀ is₁ h c l i ec el ei =
    let N = run (λ i. i) 0 (box_count v) in
    let n : length N ≡ box_count v = length_run (λ i. i) 0 (box_count v) in
    let s : sort leb N ≡ N = sort_sorted leb N (run_ascends 0 (box_count v)) in
    let k : length (sort leb N) ≡ box_count v = ap length s ∙ n in
    let f : is₁ ≡ sort leb N = ei ∙ ap (run (λ i. i) 0) (length-take-le (box_count v) is₀ (omega arith)) ∙ sym s in
    subst (λ (t : Tree). record { answer = 1; lent = buffer C' L' (is₁ ++ drop (box_count v) is₀) } ≡ grown t (buffer C L is₀))
    (sym (tree_leaf (wide_at v) (λ i. centre_of (wide_at v i)) (length N) N (omega arith)))
    (leaf_put (hull_of (wide_at v) N) (sort leb N) C C' L L' is₀ (is₁ ++ drop (box_count v) is₀) (omega arith) (omega arith) ec (rw k el) (rw (k, f)))

-- ---- what a list that passes the tests has
not_none : (b : Bool) → not b ≡ false → b ≡ true
not_none true e = refl
not_none false e = absurd (true≢false e)

-- what tests 4 and 11 say of a list that passes them
record Fit (v : List Float) : Type 0 where
  size : length v ≤ 4096
  whole : length v % 4 ≡ 0
  fit : any (λ b. not (box_fits b)) (boxes_of v) ≡ false

fit_of : (v : List Float) → boxes_tested v ≡ all_passed → Fit v
unfolding boxes_tested
fit_of v p =
    let many = ltb 4096 (length v) in
    let part = not (eqb (length v % 4) 0) in
    let unfit = any (λ x. not (box_fits x)) (boxes_of v) in
    let boxes = refusing_passed (all_passed refusing TooMany when many refusing BadBox when part) BadBox unfit p in
    let whole = refusing_passed (all_passed refusing TooMany when many) BadBox part boxes.0 in
    let few = refusing_passed all_passed TooMany many whole.0 in
    record { size = ltb-false 4096 (length v) few.1; whole = eqb-true (length v % 4) 0 (not_none (eqb (length v % 4) 0) whole.1); fit = boxes.1 }

pub boxes_passed : (v : List Float) → boxes_tested v ≡ all_passed → (length v ≤ 4096) × (length v % 4 ≡ 0)
boxes_passed v p = ((fit_of v p).size, (fit_of v p).whole)

pub boxes_fit : (v : List Float) → boxes_tested v ≡ all_passed → any (λ b. not (box_fits b)) (boxes_of v) ≡ false
boxes_fit v p = (fit_of v p).fit

pub accepted_of : (v : List Float) (c l i : ℕ) → short_sizes c l i ≡ false → boxes_tested v ≡ all_passed → Accepted v c l i
accepted_of v c l i e p =
    let b = fit_of v p in
    let s = or_none (ltb c 2044) (ltb l 1022 || ltb i 1024) e in
    let t = or_none (ltb l 1022) (ltb i 1024) s.1 in
    record { size = b.size; whole = b.whole; corners = ltb-false c 2044 s.0; links = ltb-false l 1022 t.0; items = ltb-false i 1024 t.1 }

-- lists of the stated sizes are not too short
pub short_none : (c l i : ℕ) → 2044 ≤ c → 1022 ≤ l → 1024 ≤ i → short_sizes c l i ≡ false
short_none c l i p q r = rw (le-ltb c 2044 p, le-ltb l 1022 q, le-ltb i 1024 r)

pub accepted_sizes : (v : List Float) (B : IndexBuffer) {t : Test} → t ≡ build_tested v B → t ≡ all_passed
    → Accepted v (length B.corners) (length B.links) (length B.items)
unfolding build_tested
accepted_sizes v B tested e =
    let p = refusing_passed (boxes_tested v) ShortBuffer (short_buffer B) (sym tested ∙ e) in
    accepted_of v (length B.corners) (length B.links) (length B.items) p.1 p.0

-- ---- all that building leaves
pub built : (v : List Float) (B : IndexBuffer) {t : Test} {k : ℕ} {D : IndexBuffer} → t ≡ build_tested v B → t ≡ all_passed
    → record { answer = k; lent = D } ≡ grown (index_of v) B
    → record { answer = Ok (record { nodes = k; items = box_count v }); lent = D } ≡ build_outcome v B
unfolding build_outcome
built v B tested e g = rw (← tested, e, grown_nodes (index_of v) B g, grown_lent (index_of v) B g, length_index_items v)

pub build_refused : (v : List Float) (B : IndexBuffer) {t : Test} {r : Refusal} → t ≡ build_tested v B → t ≡ Err r
    → record { answer = Err r; lent = B } ≡ build_outcome v B
unfolding build_outcome
build_refused v B tested e = rw (← tested, e)

-- with its answer in the fields
pub build_call_lem : (v : List Float) (B : IndexBuffer) {b : Answer TreeSize} {f : Fields TreeSize} {D : IndexBuffer}
    → record { answer = b; lent = D } ≡ build_outcome v B → f ≡ build_fields_of b → record { answer = f; lent = D } ≡ build_call v B
unfolding build_call
build_call_lem v B e told = rw told (ap (λ (o : Outcome (Answer TreeSize) IndexBuffer). in_fields build_fields_of o) e)

-- what was built is gone once the buffer is cleared
pub holding_cleared : (v : List Float) (B : IndexBuffer) → Accepted v (length B.corners) (length B.links) (length B.items)
    → cleared (holding (index_of v) B) ≡ cleared B
unfolding cleared holding
holding_cleared v B A =
    let t = index_of v in
    let size = A.size in
    let n = length_index_items v in
    let nodes = index_nodes v (omega arith) in
    let corners = flat_length corners_of 4 (λ _. refl) (nodes_of t) in
    let links = flat_length links_of 2 (λ _. refl) (nodes_of t) in
    let zC = length-replicate 2044 zeroᶠ in
    let zL = length-replicate {A = ℕ} 1022 0 in
    let zi = length-replicate {A = ℕ} 1024 0 in
    let aC = A.corners in
    let aL = A.links in
    let ai = A.items in
    same_buffer
    (front_front (zeros zeroᶠ 2044) (flat_map corners_of (nodes_of t)) B.corners (omega arith) (omega arith))
    (front_front (zeros 0 1022) (flat_map links_of (nodes_of t)) B.links (omega arith) (omega arith))
    (front_front (zeros 0 1024) (items_of t) B.items (omega arith) (omega arith))
