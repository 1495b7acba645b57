-- What is kept, outline k, left out or looked at, and the best of a leaf's outlines, one after the other. Assumes nothing.
use mathlib.Core.Path.{◌≡◌, refl, sym, ap, ◌∙◌, subst}
use mathlib.Core.Bool.{Bool, true, false, not, cond, ◌&&◌, ◌||◌}
use mathlib.Core.List.{List}
use Prim.Native.Nat.{ℕ, zero, suc, ◌+◌, ◌-◌, ◌≤◌, ◌<◌}
use native.Mathlib.Nat.{add-zero, sub-zero}
use native.Mathlib.Omega.{arith}
use lib.Dec.{T, ltb}
use lib.ListN.{length}
use lib.Ieee.{Float, nan, inf, fin, lt, eq}
use Rattle.number.specs.Hypot.{clear_limit, Short}
use Rattle.number.proofs.OrderLaws.{level_le, below_not_le, lt_asym}
use Rattle.boundary.specs.declared.Point.{Point}
use Rattle.boundary.specs.declared.Near.{Near}
use Rattle.boundary.specs.Boxes.{PointOf, is_in_field, FieldPoint}
use Rattle.boundary.specs.Line.{less_point, squares_of}
use Rattle.lists.specs.Lists.{run, fold, any, In}
use Rattle.distance.specs.declared.FoundEdge.{FoundEdge}
use Rattle.distance.specs.Nearest.{nearest_of}
use Rattle.distance.specs.Search.{gap_squares, length_to, NearestEdge}
use Rattle.distance.proofs.SearchLaws.{clear_farther, foot_near, found_foot, found_near, found_far}
use Rattle.boundary.specs.Outline.{count, edge_at, edges}
use Rattle.boxes.specs.BoxLists.{box_at}
use Rattle.nodes.specs.Layout.{item_at}
use Rattle.lists.proofs.MemberLaws.{in_first, in_rest}
use Rattle.set.specs.Set.{Outline, outline_in, Fitting, DoubleSet}
use Rattle.set.specs.Answers.{Boxed}
use Rattle.set.proofs.SetLaws.{outline_in_field, outline_numbers, box_field}
use Rattle.search.specs.declared.Best.{Best}
use Rattle.search.specs.declared.Kept.{Kept}
use Rattle.search.specs.Least.{magnitude_at}
use Rattle.search.specs.Walk.{wins, improved, kept_with, none_kept, Clear, best_of, diagonal_of}
use Rattle.search.proofs.MagnitudeLaws.{edge_field, magnitude_is, own_beyond}

-- ---- what is kept is clear
pub none_clear : (p : Point) (n : ℕ) → Clear p (none_kept n)
unfolding lt
none_clear p n = record { farther = λ q Q h. absurd (never (squares_of (less_point p q)) h) }
  where
    never : (x : Float) → lt (inf false) x ≡ true → ⊥
    never nan h = absurd (subst T (sym h) tt)
    never (inf true) h = absurd (subst T (sym h) tt)
    never (inf false) h = absurd (subst T (sym h) tt)
    never (fin s m e) h = absurd (subst T (sym h) tt)

found_clear : (p q : Point) (k : ℕ) {far : Float} → PointOf Short (less_point p q) → far ≡ clear_limit (squares_of (less_point p q)) → Clear p (record { best = record { outline = k; distance = length_to p q }; far = far })
found_clear p q k Q e = record { farther = λ r R h. clear_farther p q r Q R (rw e at h) }

-- ---- where outline k is farther the best stays
farther_stays : (best : Best) (k : ℕ) (d : Float) → lt best.distance d ≡ true → best ≡ improved best k d
unfolding improved
farther_stays best k d h = go (lt d best.distance) (lt_asym best.distance d h) (eq d best.distance) refl
  where
    go : (s : Bool) → s ≡ false → (t : Bool) → eq d best.distance ≡ t → best ≡ cond (s || (t && ltb k best.outline)) (record { outline = k; distance = d }) best
    go true e t f = absurd (subst T e tt)
    go false e false f = refl
    go false e true f = absurd (below_not_le best.distance d (subst T (sym h) tt) (level_le d best.distance f))

-- ---- outline k, as o has it
module _ (os : List Outline) (fit : Fitting os) (held : DoubleSet os) (p : Point) (k : ℕ) (l : k < length os) where
  pub outline_fit : (o : Outline) → o ≡ outline_in os k → (any (λ x. not (is_in_field x)) o ≡ false) × (0 < count o)
  outline_fit o e = rw e (outline_in_field os fit k l, fit.some k l)

  module _ (P : FieldPoint p) (kept : Kept) (C : Clear p kept) where
    -- r is what is kept after outline k
    abbrev After : Kept → Type 0
    After r = (r.best ≡ improved kept.best k (magnitude_at os p k)) × Clear p r

    -- left out by its box
    pub box_left_out : (X : List Float) → Boxed os X → lt kept.far (gap_squares (diagonal_of (box_at X k)) p) ≡ true → After kept
    box_left_out X B h =
        let d = own_beyond (outline_in os k) (outline_numbers os fit held k l) p P (fit.some k l) C (box_field os fit held k l) (rw (B.each k l) at h) in
        (farther_stays kept.best k (magnitude_at os p k) d, C)

    -- where the edge that has its nearest point was found
    module _ (o : Outline) (e : o ≡ outline_in os k) (f : FoundEdge) (F : NearestEdge o p f) where
      short : PointOf Short (less_point p f.q)
      short = rw (found_foot (edge_at o f.i) f.i p F.found) (foot_near (edge_field o (rw e (outline_numbers os fit held k l)) f.i F.edge) P)

      distance : length_to p f.q ≡ magnitude_at os p k
      distance =
          ap (λ (c : Near). c.d) (found_near (edge_at o f.i) f.i p F.found ∙ F.nearest)
          ∙ ap (λ (o : Outline). (nearest_of (edges o) p).d) e
          ∙ sym (magnitude_is (outline_in os k) (outline_numbers os fit held k l) p P (fit.some k l))

      -- left out by that point
      pub point_left_out : lt kept.far (squares_of (less_point p f.q)) ≡ true → After kept
      point_left_out h = (farther_stays kept.best k (magnitude_at os p k) (rw distance at (C.farther f.q short h)), C)

      -- looked at: where it is taken, its `far` is
      pub looked_at : (r : Kept) → r ≡ kept_with kept k (length_to p f.q) f.far → After r
      unfolding improved kept_with
      looked_at r h = rw (h, ← distance) (go (wins kept.best k (length_to p f.q)) refl)
        where
          found : Kept
          found = record { best = record { outline = k; distance = length_to p f.q }; far = f.far }

          go : (b : Bool) → wins kept.best k (length_to p f.q) ≡ b → ((cond b found kept).best ≡ improved kept.best k (length_to p f.q)) × Clear p (cond b found kept)
          go true w = (rw w, found_clear p f.q k short (found_far (edge_at o f.i) f.i p F.found))
          go false w = (rw w, C)

-- ---- the items of a leaf
run_in : (g : ℕ → ℕ) (a n i : ℕ) → i < n → In (g (a + i)) (run g a n)
unfolding run
run_in g a zero i h = absurd (omega arith)
run_in g a (suc n) zero h = let z : a + 0 ≡ a = omega arith in rw z (in_first (g a) (run g (suc a) n))
run_in g a (suc n) (suc i) h = let z : a + suc i ≡ suc a + i = omega arith in rw z (in_rest (g (suc a + i)) (g a) (run g (suc a) n) (run_in g (suc a) n i (omega arith)))

module _ (D : ℕ → Float) (I : List ℕ) (first count : ℕ) where
  abbrev step : Best → ℕ → Best
  step b k = improved b k (D k)

  pub look_first : (b : Best) → fold step b (run (item_at I) (first + 0) (count - 0)) ≡ best_of D b (run (item_at I) first count)
  unfolding best_of
  look_first b = rw (add-zero first, sub-zero count)

  module _ (i : ℕ) (b : Best) (x : Best) (inv : fold step b (run (item_at I) (first + i) (count - i)) ≡ x) where
    pub look_next : i < count → (k : ℕ) (r : Best) → k ≡ item_at I (first + i) → r ≡ improved b k (D k) → fold step r (run (item_at I) (first + (i + 1)) (count - (i + 1))) ≡ x
    unfolding fold run
    look_next l k r ek er =
        let z : count - i ≡ suc (count - (i + 1)) = omega arith in
        let y : first + (i + 1) ≡ suc (first + i) = omega arith in
        let e : r ≡ step b (item_at I (first + i)) = er ∙ ap (λ (j : ℕ). improved b j (D j)) ek in
        rw (y, e) (rw z at inv)

    pub look_end : count ≤ i → b ≡ x
    unfolding fold run
    look_end l = let z : count - i ≡ 0 = omega arith in rw z at inv

  pub look_item : (i : ℕ) → i < count → (k : ℕ) → k ≡ item_at I (first + i) → (n : ℕ) → ((j : ℕ) → In j (run (item_at I) first count) → j < n) → k < n
  look_item i l k e n h = rw e (h (item_at I (first + i)) (run_in (item_at I) first count i l))
