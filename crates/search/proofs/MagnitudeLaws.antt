-- The magnitude of an outline's distance is the distance of one of its edges, a number below infinity, and the gap of every box around the outline's widened box is at most that; what is clearly farther by its box is farther. Assumes nothing.
use mathlib.Core.Path.{◌≡◌, refl, sym, ◌∙◌, subst}
use mathlib.Core.Bool.{Bool, true, false, cond, true≢false}
use mathlib.Core.List.{[]}
use Prim.Native.Nat.{ℕ, zero, suc, ◌+◌, ◌*◌, ◌^◌, ◌≤◌, ◌<◌}
use native.Mathlib.Decide.{ℕ_discrete}
use native.Mathlib.Nat.{zero-lt-suc, mul-pos}
use native.Mathlib.Omega.{arith}
use borrow.Author.Tests.{eqb-true, eqb-false, ltb-false}
use lib.Dec.{T, eqb}
use lib.IntN.{ℤ, pos, negsuc}
use lib.ListN.{length, get_or}
use lib.Ieee.{Float, nan, inf, fin, up, down, binary64, sub, lt, le, fits}
use lib.Ieee.Bits.{is_true}
use lib.Ieee.Fits.{up_pos}
use lib.Pow.{pow_pos}
use Rattle.number.specs.Exact.{zeroᶠ}
use Rattle.number.proofs.OrderLaws.{below_through}
use Rattle.number.proofs.MagnitudeOrder.{abs_neg, abs_plus}
use Rattle.number.specs.Root.{Plus, plus_inf, plus_fin}
use Rattle.number.specs.Signs.{abs_of}
use Rattle.number.proofs.HypotLaws.{hypot_fits, hypot_plus}
use Rattle.number.proofs.Values.{held_not_nan}
use Rattle.boundary.specs.declared.Point.{Point}
use Rattle.boundary.specs.declared.Edge.{Edge}
use Rattle.boundary.specs.declared.Near.{Near}
use Rattle.boundary.specs.declared.Distance.{Distance}
use Rattle.boundary.specs.declared.Bounds.{Bounds}
use Rattle.boundary.specs.Boxes.{PointOf, FieldValue, FieldPoint, FieldEdge, FieldBox, Inside, Around, empty_box, point_box, stretched, edge_box, widened_of, gap_of, gap_squares_of}
use Rattle.lists.specs.Lists.{run, fold}
use Rattle.boundary.specs.Line.{less_point, squares_of, foot_of, line_near}
use Rattle.distance.specs.Search.{gap_squares}
use Rattle.distance.specs.Nearest.{nearer, far_away, nearest_of, rounding_of, flipped, away_along, signed_of}
use Rattle.boundary.specs.Outline.{count, after, vertex_at, edge_at, vertices, edges}
use Rattle.boundary.proofs.BoxLaws.{edge_box_ends, around_inside}
use Rattle.boundary.proofs.FieldLaws.{field_not_nan}
use Rattle.distance.proofs.SearchLaws.{gap_squares_lem, foot_near, near_finite, nearer_step}
use Rattle.geometry.specs.Polygon.{bounds_of, contains_of}
use Rattle.boundary.proofs.AroundLaws.{NotNan, NumberBox, around_self, around_through, hull_number, hull_around, empty_number}
use Rattle.set.specs.Set.{Outline, outline_box}
use Rattle.search.specs.declared.Kept.{Kept}
use Rattle.search.specs.Least.{magnitude_of}
use Rattle.search.specs.Walk.{Clear, diagonal_of}
use Rattle.boundary.specs.Boxes.{DoubleBox}
use Rattle.boundary.proofs.GapLaws.{gap_around, squares_around}

-- ---- the magnitude of a signed distance is the distance
-- `f64` has one +0
plus_zero : (e : ℤ) → T (fits binary64 (fin false 0 e)) → fin false 0 e ≡ zeroᶠ
unfolding fits
plus_zero (pos zero) h = refl
plus_zero (pos (suc k)) h = absurd (omega (arith, eqb-true (2 ^ suc k * 1) 1 (is_true (eqb (2 ^ suc k * 1) 1) h), pow_pos k))
plus_zero (negsuc k) h = absurd (omega (arith, eqb-true (1 * 2 ^ suc k) 1 (is_true (eqb (1 * 2 ^ suc k) 1) h), pow_pos k))

-- no minus sign, and an `f64` below infinity
pub record Length (x : Float) : Type 0 where
  pub plus : Plus x
  pub fits : T (fits binary64 x)
  pub finite : lt x (inf false) ≡ true

not_above_zero : {x : Float} → Plus x → T (fits binary64 x) → lt zeroᶠ x ≡ false → zeroᶠ ≡ x
unfolding lt
not_above_zero plus_inf F h = absurd (true≢false h)
not_above_zero (plus_fin zero e) F h = sym (plus_zero e F)
not_above_zero (plus_fin (suc m) e) F h =
    let l = ltb-false (0 * 1 * down e) (suc m * up e * 1) h in
    let q : 0 < suc m * up e = mul-pos (zero-lt-suc m) (up_pos e) in
    absurd (omega arith)

abs_flipped : {x : Float} → Plus x → (inside : Bool) → abs_of (flipped inside x) ≡ x
abs_flipped {x} h true = abs_neg x ∙ abs_plus h
abs_flipped h false = abs_plus h

signed_magnitude : (c : Near) (p : Point) (inside : Bool) → Plus c.d → T (fits binary64 c.d) → abs_of (signed_of c p inside).d ≡ c.d
unfolding signed_of
signed_magnitude c p inside h F = go (lt (rounding_of c.q p) c.d) (lt zeroᶠ c.d) refl
  where
    go : (s t : Bool) → lt zeroᶠ c.d ≡ t → abs_of (cond {A = Distance} s (record { d = flipped inside c.d; v = record { x = away_along inside p.x c.q.x c.d; y = away_along inside p.y c.q.y c.d } }) (cond t (record { d = flipped inside c.d; v = c.n }) (record { d = zeroᶠ; v = c.n }))).d ≡ c.d
    go true t e = abs_flipped h inside
    go false true e = abs_flipped h inside
    go false false e = abs_plus (plus_fin 0 (pos 0)) ∙ not_above_zero h F e

-- ---- the distance of an edge
edge_length_lem : {e : Edge} {p : Point} → FieldEdge e → FieldPoint p → Length (line_near e p).d
unfolding line_near
edge_length_lem {e} {p} E P =
    let s = foot_near E P in
    let x = sub binary64 p.x (foot_of e p).x in
    let y = sub binary64 p.y (foot_of e p).y in
    record {
      plus = hypot_plus x y (held_not_nan s.x.held) (held_not_nan s.y.held);
      fits = hypot_fits x y;
      finite = near_finite E P;
    }

-- ---- a box stretched to points has each of them
record Stretched (b : Bounds) (q : Point) (r : Bounds) : Type 0 where
  number : NumberBox r
  around : Around r b
  inside : Inside q r

stretched_has : (b : Bounds) (q : Point) → NumberBox b → PointOf NotNan q → Stretched b q (stretched b q)
stretched_has b q B Q =
    let both = hull_around b (point_box q) B (record { min = Q; max = Q }) in
    record {
      number = hull_number b (point_box q) B (record { min = Q; max = Q });
      around = both.0;
      inside = record { x = record { low = both.1.left; high = both.1.right }; y = record { low = both.1.bottom; high = both.1.top } };
    }

record Grown (b : Bounds) (g : ℕ → Point) (i n : ℕ) (r : Bounds) : Type 0 where
  around : Around r b
  inside : (j : ℕ) → i ≤ j → j < n → Inside (g j) r

grown : (g : ℕ → Point) (i m : ℕ) (b : Bounds) → NumberBox b → ((j : ℕ) → j < i + m → PointOf NotNan (g j)) → Grown b g i (i + m) (fold stretched b (run g i m))
unfolding fold run
grown g i zero b B N = record { around = around_self b B; inside = λ j l h. absurd (omega arith) }
grown g i (suc m) b B N =
    let s = stretched_has b (g i) B (N i (omega arith)) in
    let r = grown g (suc i) m (stretched b (g i)) s.number (λ j h. N j (omega arith)) in
    let f = fold stretched (stretched b (g i)) (run g (suc i) m) in
    record { around = around_through f (stretched b (g i)) b r.around s.around; inside = λ j l h. at f j l h s r (ℕ_discrete j i) }
  where
    at : (f : Bounds) (j : ℕ) → i ≤ j → j < i + suc m → Stretched b (g i) (stretched b (g i)) → Grown (stretched b (g i)) g (suc i) (suc i + m) f → Dec (j ≡ i) → Inside (g j) f
    at f j l h s r (yes e) = rw e (around_inside r.around s.inside)
    at f j l h s r (no a) = r.inside j (omega arith) (omega arith)

-- ---- the box of a box's diagonal is around it
diagonal_around : {b : Bounds} → FieldBox b → Around (edge_box (diagonal_of b)) b
diagonal_around B = let i = edge_box_ends (record { a = B.min; b = B.max }) in record { left = i.0.x.low; right = i.1.x.high; bottom = i.0.y.low; top = i.1.y.high }

-- ---- an outline whose numbers are all of the field
module _ (o : Outline) (N : (i : ℕ) → i < length o → FieldValue (get_or o i nan)) where
  vertex_field : (i : ℕ) → i < count o → FieldPoint (vertex_at o i)
  vertex_field i l = record { x = N (2 * i) (omega arith); y = N (2 * i + 1) (omega arith) }

  after_within : (i : ℕ) → i < count o → after (count o) i < count o
  after_within i l = go (eqb (i + 1) (count o)) refl
    where
      go : (b : Bool) → eqb (i + 1) (count o) ≡ b → cond b 0 (i + 1) < count o
      go true e = omega arith
      go false e = let d = eqb-false (i + 1) (count o) e in omega arith

  pub edge_field : (i : ℕ) → i < count o → FieldEdge (edge_at o i)
  edge_field i l = record { a = vertex_field i l; b = vertex_field (after (count o) i) (after_within i l) }

  -- its box has every vertex
  vertex_inside : (i : ℕ) → i < count o → Inside (vertex_at o i) (outline_box o)
  unfolding bounds_of vertices
  vertex_inside i l = (grown (vertex_at o) 0 (count o) empty_box empty_number number).inside i (omega arith) (omega arith)
    where
      number : (j : ℕ) → j < 0 + count o → PointOf NotNan (vertex_at o j)
      number j h = let v = vertex_field j (omega arith) in record { x = field_not_nan v.x; y = field_not_nan v.y }

  module _ (p : Point) (P : FieldPoint p) (some : 0 < count o) where
    -- what holds of the distance of every edge holds of the nearest
    later : (Q : Near → Type 0) → ((i : ℕ) → i < count o → Q (line_near (edge_at o i) p)) → (i m : ℕ) → i + m ≤ count o → (best : Near) → Q best → Q (fold (nearer_step p) best (run (edge_at o) i m))
    unfolding fold run
    later Q h i zero l best q = q
    later Q h i (suc m) l best q = later Q h (suc i) m (omega arith) (nearer best (line_near (edge_at o i) p)) (pick (lt (line_near (edge_at o i) p).d best.d))
      where
        pick : (b : Bool) → Q (cond b (line_near (edge_at o i) p) best)
        pick true = h i (omega arith)
        pick false = q

    from_first : (Q : Near → Type 0) → ((i : ℕ) → i < count o → Q (line_near (edge_at o i) p)) → (n : ℕ) → 0 < n → n ≤ count o → Q (fold (nearer_step p) (far_away p) (run (edge_at o) 0 n))
    unfolding fold run
    from_first Q h zero l m = absurd (omega arith)
    from_first Q h (suc n) l m = later Q h 1 n (omega arith) (nearer (far_away p) (line_near (edge_at o 0) p)) (rw (near_finite (edge_field 0 (omega arith)) P) (h 0 (omega arith)))

    nearest_one_of : (Q : Near → Type 0) → ((i : ℕ) → i < count o → Q (line_near (edge_at o i) p)) → Q (nearest_of (edges o) p)
    unfolding nearest_of edges
    nearest_one_of Q h = from_first Q h (count o) some (omega arith)

    near_length : Length (nearest_of (edges o) p).d
    near_length = nearest_one_of (λ c. Length c.d) (λ i l. edge_length_lem (edge_field i l) P)

    -- THE MAGNITUDE is the distance of the nearest edge
    pub magnitude_is : magnitude_of o p ≡ (nearest_of (edges o) p).d
    unfolding magnitude_of
    magnitude_is = signed_magnitude (nearest_of (edges o) p) p (contains_of (edges o) p) near_length.plus near_length.fits

    pub magnitude_length : Length (magnitude_of o p)
    magnitude_length = rw magnitude_is near_length

    -- what is clear of a number that is at most every edge's squared distance is farther
    module _ {kept : Kept} (C : Clear p kept) where
      beyond : (g : Float) → ((i : ℕ) → i < count o → T (le g (squares_of (less_point p (foot_of (edge_at o i) p))))) → lt kept.far g ≡ true → lt kept.best.distance (magnitude_of o p) ≡ true
      unfolding line_near
      beyond g G h =
          rw magnitude_is
          (nearest_one_of (λ c. lt kept.best.distance c.d ≡ true)
          (λ i l.
          let q = foot_of (edge_at o i) p in
          let s = squares_of (less_point p q) in
          C.farther q (foot_near (edge_field i l) P) (is_true (lt kept.far s) (below_through kept.far g s (subst T (sym h) tt) (G i l)))))

      -- so of the squared gap of a box of `f64`s around the outline's widened box
      pub node_beyond : (n : Bounds) → FieldBox (outline_box o) → DoubleBox n → Around n (widened_of (outline_box o)) → lt kept.far (gap_squares_of n p) ≡ true → lt kept.best.distance (magnitude_of o p) ≡ true
      node_beyond n B F A = beyond (gap_squares_of n p) (λ i l. squares_around (edge_field i l) P B (vertex_inside i l) (vertex_inside (after (count o) i) (after_within i l)) F A)

      -- and of that of the outline's own box, widened as an edge's is
      pub own_beyond : FieldBox (outline_box o) → lt kept.far (gap_squares (diagonal_of (outline_box o)) p) ≡ true → lt kept.best.distance (magnitude_of o p) ≡ true
      own_beyond B =
          let c = diagonal_of (outline_box o) in
          let A = diagonal_around B in
          beyond (gap_squares c p)
          (λ i l. gap_squares_lem (record { a = B.min; b = B.max }) (edge_field i l) P (around_inside A (vertex_inside i l)) (around_inside A (vertex_inside (after (count o) i) (after_within i l))))

    -- THE GAP of every box of `f64`s around the outline's widened box is at most it
    pub gap_magnitude : (n : Bounds) → FieldBox (outline_box o) → DoubleBox n → Around n (widened_of (outline_box o)) → T (le (gap_of n p) (magnitude_of o p))
    gap_magnitude n B F A =
        rw magnitude_is
        (nearest_one_of (λ c. T (le (gap_of n p) c.d))
        (λ i l. gap_around (edge_field i l) P B (vertex_inside i l) (vertex_inside (after (count o) i) (after_within i l)) F A))

-- no outline is infinitely far
pub magnitude_none : (p : Point) → magnitude_of [] p ≡ inf false
unfolding magnitude_of edges nearest_of run fold
magnitude_none p = signed_magnitude (far_away p) p (contains_of [] p) plus_inf (unfold fits in tt)
