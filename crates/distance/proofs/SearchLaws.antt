-- The search for the nearest edge: an edge that is left out cannot win, and what a turn of the loop keeps. Assumes nothing.
use mathlib.Core.Path.{◌≡◌, refl, sym, ap, ◌∙◌, subst}
use mathlib.Core.Logic.{◌⊎◌, inl, inr, ⊎_elim}
use mathlib.Core.Bool.{Bool, true, false, not, cond}
use mathlib.Core.List.{List}
use Prim.Native.Nat.{ℕ, ◌+◌, ◌-◌, ◌≤◌, ◌<◌}
use native.Mathlib.Nat.{le_trans, le_antisymm, lt_irrefl, sub-zero}
use native.Mathlib.Omega.{arith}
use borrow.Author.Tests.{eqb-true, ltb-true, ltb-false}
use lib.Dec.{T, lit≤, eqb, ltb}
use lib.Ieee.{Float, inf, neg, lt, le, eq, fits}
use lib.Ieee.Bits.{is_true}
use Rattle.number.specs.Exact.{Held}
use Rattle.number.specs.Hypot.{slack, clear_limit, Short}
use Rattle.number.proofs.Operations.{finite_is, mul_rounds}
use Rattle.number.proofs.HypotLaws.{squares_mono}
use Rattle.number.proofs.HypotClear.{hypot_clear, above_limit}
use Rattle.number.proofs.HypotError.{hypot_relative}
use Rattle.number.proofs.Values.{below_infinity, short_is, products_held, rounds_not_nan}
use Rattle.number.proofs.OrderLaws.{below_through, through_below, below_le, not_below, left_not_nan, lt_asym}
use Rattle.boundary.specs.declared.Point.{Point}
use Rattle.boundary.specs.declared.Edge.{Edge}
use Rattle.boundary.specs.declared.Near.{Near}
use Rattle.distance.specs.declared.FoundEdge.{FoundEdge}
use Rattle.lists.specs.Lists.{run, fold}
use Rattle.boundary.specs.Outline.{count, edge_at, edges}
use Rattle.boundary.specs.Line.{less_point, squares_of, param_of, foot_of, normal_of, line_near}
use Rattle.distance.specs.Nearest.{nearer, far_away, nearest_of}
use Rattle.boundary.specs.Boxes.{PointOf, FieldValue, FieldPoint, FieldEdge, Inside, hull, edge_box}
use Rattle.distance.specs.Search.{margin, outside, gap_squares, length_to, found_of, edge_wins}
use Rattle.boundary.proofs.AlongLaws.{along_fits, between_held}
use Rattle.boundary.proofs.BoxLaws.{edge_box_field, edge_box_ends, foot_widened, foot_short}
use Rattle.boundary.proofs.GapLaws.{out_size}
use Rattle.boundary.proofs.FieldLaws.{field_held, field_box_finite, widened_finite}
use Rattle.lists.proofs.FoldLaws.{fold_run_next, fold_run_end}

-- ---- an edge that is left out

margin_field : FieldValue margin
margin_field = record { fits = unfold fits in tt; in_field = unfold le lt eq neg in tt }

slack_held : Held slack
slack_held = record { fits = unfold fits in tt; finite = tt }

-- clearly farther than q by the squared distances, r is farther
pub clear_farther : (p q r : Point) → PointOf Short (less_point p q) → PointOf Short (less_point p r) → lt (clear_limit (squares_of (less_point p q))) (squares_of (less_point p r)) ≡ true
    → lt (length_to p q) (length_to p r) ≡ true
clear_farther p q r Q R h =
    let s = squares_of (less_point p q) in
    let S = products_held Q.x Q.x Q.y Q.y in
    let n = rounds_not_nan (mul_rounds (finite_is slack_held).1 (finite_is S).1) in
    is_true (lt (length_to p q) (length_to p r)) (hypot_clear Q.x Q.y R.x R.y (above_limit s (squares_of (less_point p r)) n (subst T (sym h) tt)))

-- who is farther does not win, and who is nearer does
module _ (i : ℕ) (c : Float) (j : ℕ) (d : Float) where
  pub farther_loses : lt d c ≡ true → edge_wins i c j d ≡ false
  farther_loses h = rw (h, lt_asym d c h) (same (ltb i j))
    where
      same : (b : Bool) → cond b false false ≡ false
      same true = refl
      same false = refl

  pub nearer_wins : lt c d ≡ true → edge_wins i c j d ≡ true
  nearer_wins h = rw (h, lt_asym c d h) (same (ltb i j))
    where
      same : (b : Bool) → cond b true true ≡ true
      same true = refl
      same false = refl

-- the squared gap of c's widened box is at most the squared distance of every edge e that lies in c's box
pub gap_squares_lem : {c e : Edge} {p : Point} → FieldEdge c → FieldEdge e → FieldPoint p → Inside e.a (edge_box c) → Inside e.b (edge_box c) → T (le (gap_squares c p) (squares_of (less_point p (foot_of e p))))
unfolding gap_squares outside foot_of edge_box hull
gap_squares_lem {c} {e} {p} C E P ia ib =
    let w = widened_finite (edge_box_field C) margin_field in
    let i = foot_widened E P (field_box_finite (edge_box_field C)) (field_held margin_field) (unfold le lt eq in tt) ia ib in
    let t = param_of e p in
    let qx = between_held w.min.x w.max.x (along_fits e.a.x e.b.x t E.b.x.fits) i.x in
    let qy = between_held w.min.y w.max.y (along_fits e.a.y e.b.y t E.b.y.fits) i.y in
    squares_mono _ _ _ _ (out_size (field_held P.x) qx _ _ w.min.x.fits w.max.x.fits i.x) (out_size (field_held P.y) qy _ _ w.min.y.fits w.max.y.fits i.y)

module _ {e : Edge} {p : Point} (E : FieldEdge e) (P : FieldPoint p) where
  pub foot_near : PointOf Short (less_point p (foot_of e p))
  foot_near = let s = foot_short E P in record { x = s.0; y = s.1 }

  -- clearly farther than q by its box, it is farther
  pub left_out : (q : Point) → PointOf Short (less_point p q) → lt (clear_limit (squares_of (less_point p q))) (gap_squares e p) ≡ true → lt (length_to p q) (line_near e p).d ≡ true
  unfolding line_near
  left_out q Q h =
      let s = clear_limit (squares_of (less_point p q)) in
      let t = squares_of (less_point p (foot_of e p)) in
      let ends = edge_box_ends E in
      clear_farther p q (foot_of e p) Q foot_near (is_true (lt s t) (below_through s (gap_squares e p) t (subst T (sym h) tt) (gap_squares_lem E E P ends.0 ends.1)))

  -- a distance is below infinity
  pub near_finite : lt (line_near e p).d (inf false) ≡ true
  unfolding line_near
  near_finite =
      let x = (short_is foot_near.x).1 in
      let y = (short_is foot_near.y).1 in
      below_infinity (hypot_relative x.is y.is (le_trans x.near (lit≤ tt)) (le_trans y.near (lit≤ tt))).is

-- ---- what an edge that was found says of its nearest point
module _ (e : Edge) (i : ℕ) (p : Point) {f : FoundEdge} (is : f ≡ found_of e i p) where
  pub found_foot : f.q ≡ foot_of e p
  unfolding found_of
  found_foot = ap (λ (g : FoundEdge). g.q) is

  pub found_near : record { d = length_to p f.q; q = f.q; n = normal_of e } ≡ line_near e p
  unfolding found_of line_near
  found_near = ap (λ (g : FoundEdge). record { d = length_to p g.q; q = g.q; n = normal_of e }) is

  pub found_far : f.far ≡ clear_limit (squares_of (less_point p f.q))
  unfolding found_of
  found_far = subst (λ (g : FoundEdge). g.far ≡ clear_limit (squares_of (less_point p g.q))) (sym is) refl

-- ---- the loop: `best` is the nearest of the first i edges, or one that is still to come and nearer than all of those

abbrev pub nearer_step : Point → Near → Edge → Near
nearer_step p best e = nearer best (line_near e p)

pub record SearchedEdges (v : List Float) (p : Point) (i : ℕ) (best : FoundEdge) : Type 0 where
  pub within : i ≤ count v
  pub edge : best.i < count v
  pub found : best ≡ found_of (edge_at v best.i) best.i p
  pub short : PointOf Short (less_point p best.q)
  -- the nearest of the first i edges
  pub first : Near
  pub place : ((best.i < i) × (first ≡ line_near (edge_at v best.i) p)) ⊎ ((i ≤ best.i) × (lt (line_near (edge_at v best.i) p).d first.d ≡ true))
  pub left : fold (nearer_step p) first (run (edge_at v) i (count v - i)) ≡ nearest_of (edges v) p

-- before the first turn, with any edge
module _ (v : List Float) (p : Point) (k : ℕ) (l : k < count v) (short : PointOf Short (less_point p (foot_of (edge_at v k) p))) (finite : lt (line_near (edge_at v k) p).d (inf false) ≡ true) where
  all : fold (nearer_step p) (far_away p) (run (edge_at v) 0 (count v - 0)) ≡ nearest_of (edges v) p
  unfolding nearest_of edges
  all = rw (sub-zero (count v))

  pub searched_first : SearchedEdges v p (cond (eqb k 0) 1 0) (found_of (edge_at v k) k p)
  unfolding found_of
  searched_first = at (eqb k 0) refl
    where
      at : (b : Bool) → eqb k 0 ≡ b → SearchedEdges v p (cond b 1 0) (found_of (edge_at v k) k p)
      at true e =
          let z : k ≡ 0 = eqb-true k 0 e in
          let next = sym (fold_run_next (nearer_step p) (edge_at v) (far_away p) 0 (count v) (omega arith)) ∙ all in
          let f = rw z at finite in
          record { within = omega arith; edge = l; found = refl; short = short; first = line_near (edge_at v 0) p; place = inl (omega arith, rw z); left = rw f at next }
      at false e = record { within = omega arith; edge = l; found = refl; short = short; first = far_away p; place = inr (omega arith, finite); left = all }

-- one edge more
module _ {v : List Float} {p : Point} {i : ℕ} {best : FoundEdge} (r : FoundEdge) (S : SearchedEdges v p i best) (l : i < count v) (short : PointOf Short (less_point p r.q)) (finite : lt (line_near (edge_at v i) p).d (inf false) ≡ true) where
  abbrev E : Edge
  E = edge_at v best.i

  abbrev e : Edge
  e = edge_at v i

  next : fold (nearer_step p) (nearer S.first (line_near e p)) (run (edge_at v) (i + 1) (count v - (i + 1))) ≡ nearest_of (edges v) p
  next = sym (fold_run_next (nearer_step p) (edge_at v) S.first i (count v) l) ∙ S.left

  -- it is the nearest of the first i + 1
  taken : lt (line_near e p).d S.first.d ≡ true → r ≡ found_of e i p → SearchedEdges v p (i + 1) r
  unfolding found_of
  taken c h = subst (SearchedEdges v p (i + 1)) (sym h) (record { within = omega arith; edge = l; found = refl; short = rw h at short; first = line_near e p; place = inl (omega arith, refl); left = rw c at next })

  -- the best so far stays
  passed : best.i < i → S.first ≡ line_near E p → lt (line_near e p).d (line_near E p).d ≡ false → SearchedEdges v p (i + 1) best
  passed b same c =
      let c' : lt (line_near e p).d S.first.d ≡ false = rw same c in
      record { within = omega arith; edge = S.edge; found = S.found; short = S.short; first = S.first; place = inl (omega arith, same); left = rw c' at next }

  -- the best so far is still to come
  ahead : i < best.i → lt (line_near E p).d S.first.d ≡ true → lt (line_near E p).d (line_near e p).d ≡ true → SearchedEdges v p (i + 1) best
  ahead b c d = record { within = omega arith; edge = S.edge; found = S.found; short = S.short; first = nearer S.first (line_near e p); place = inr (omega arith, above (lt (line_near e p).d S.first.d)); left = next }
    where
      above : (t : Bool) → lt (line_near E p).d (cond t (line_near e p) S.first).d ≡ true
      above true = d
      above false = c

  -- the best so far is this edge
  arrived : best.i ≡ i → lt (line_near e p).d S.first.d ≡ true → SearchedEdges v p (i + 1) best
  arrived b c = record { within = omega arith; edge = S.edge; found = S.found; short = S.short; first = line_near e p; place = inl (omega arith, ap (λ (j : ℕ). line_near (edge_at v j) p) (sym b)); left = rw c at next }

  not_above : lt (line_near E p).d S.first.d ≡ true → lt (line_near E p).d (line_near e p).d ≡ false → lt (line_near e p).d S.first.d ≡ true
  not_above c d =
      let x = (line_near E p).d in
      let y = (line_near e p).d in
      let z = S.first.d in
      is_true (lt y z) (through_below y x z (not_below x y (left_not_nan x z (below_le x z c)) (left_not_nan y (inf false) (below_le y (inf false) finite)) d) (subst T (sym c) tt))

  turn : (b c d : Bool) → ltb i best.i ≡ b → lt (line_near E p).d (line_near e p).d ≡ c → lt (line_near e p).d (line_near E p).d ≡ d → r ≡ cond (cond b (not c) d) (found_of e i p) best → SearchedEdges v p (i + 1) r
  turn true c d b' c' d' h = let b = ltb-true i best.i b' in ⊎_elim (λ s. absurd (lt_irrefl i (omega arith))) (λ s. go c c' h s) S.place
    where
      go : (c : Bool) → lt (line_near E p).d (line_near e p).d ≡ c → r ≡ cond (not c) (found_of e i p) best → ((i ≤ best.i) × (lt (line_near E p).d S.first.d ≡ true)) → SearchedEdges v p (i + 1) r
      go true c h s = subst (SearchedEdges v p (i + 1)) (sym h) (ahead (ltb-true i best.i b') s.1 c)
      go false c h s = taken (not_above s.1 c) h
  turn false c true b' c' d' h = ⊎_elim (λ s. taken (rw s.1 d') h) (λ s. let q : best.i ≡ i = le_antisymm (ltb-false i best.i b') s.0 in taken (rw q at s.1) h) S.place
  turn false c false b' c' d' h = subst (SearchedEdges v p (i + 1)) (sym h) (⊎_elim (λ s. passed s.0 s.1 d') (λ s. let q : best.i ≡ i = le_antisymm (ltb-false i best.i b') s.0 in arrived q (rw q at s.1)) S.place)

  pub searched_next : r ≡ cond (edge_wins i (line_near e p).d best.i (length_to p best.q)) (found_of e i p) best → SearchedEdges v p (i + 1) r
  searched_next h =
      let same : length_to p best.q ≡ (line_near E p).d = ap (λ (k : Near). k.d) (found_near E best.i p S.found) in
      turn (ltb i best.i) (lt (line_near E p).d (line_near e p).d) (lt (line_near e p).d (line_near E p).d) refl refl refl (rw same at h)

pub searched_end : {v : List Float} {p : Point} {i : ℕ} {best : FoundEdge} → SearchedEdges v p i best → count v ≤ i → line_near (edge_at v best.i) p ≡ nearest_of (edges v) p
searched_end {v} {p} {i} {best} S l = ⊎_elim (λ s. sym s.1 ∙ sym (fold_run_end (nearer_step p) (edge_at v) S.first i (count v) l) ∙ S.left) (λ s. let w = S.edge in let u = s.0 in absurd (lt_irrefl i (omega arith))) S.place
