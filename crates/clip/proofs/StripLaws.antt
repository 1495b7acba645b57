-- The edges of an outline between vertices outside one bound of a strip: drawn as one line, from the first of the vertices to the last. Assumes nothing.
use mathlib.Core.Path.{◌≡◌, refl, sym, ap, ◌∙◌}
use mathlib.Core.Bool.{true, false}
use mathlib.Core.List.{List, [], ◌∷◌, ◌++◌, append_assoc, append-nil}
use Prim.Native.Nat.{ℕ, zero, suc, ◌+◌, ◌-◌, ◌≤◌, ◌<◌}
use native.Mathlib.Nat.{sub-zero, sub_self}
use native.Mathlib.Omega.{arith}
use borrow.Author.Tests.{ne_eqb}
use lib.Ieee.{Float, eq, le, neg}
use lib.Ieee.Bits.{is_true}
use lib.Ieee.Fits.{and_r}
use Rattle.number.proofs.OrderLaws.{level_self, left_not_nan}
use Rattle.lists.specs.Lists.{run}
use Rattle.boundary.specs.declared.Point.{Point}
use Rattle.boundary.specs.declared.Edge.{Edge}
use Rattle.boundary.specs.Boxes.{limit, FieldValue, FieldPoint, FieldEdge}
use Rattle.boundary.specs.Outline.{count, vertex_at, after, edge_at, edges, same_point}
use Rattle.boundary.proofs.OutlineLaws.{next_edge}
use Rattle.clip.specs.declared.HalfPlane.{HalfPlane}
use Rattle.clip.specs.Clip.{in_half_plane}
use Rattle.clip.specs.Lent.{lines_from}
use Rattle.clip.specs.Shortened.{BothDropped, BothKept, Shortened, as_it_is, outside_low, outside_high, StripOf, chord_of, Drawn}
use Rattle.clip.proofs.KeepsAllLaws.{side_part, field_vertex}

-- ---- the edges from vertex i on: the first of them, and the others
run_next : {A : Type 0} (f : ℕ → A) (i n : ℕ) → i < n → run f i (n - i) ≡ f i ∷ run f (i + 1) (n - (i + 1))
unfolding run
run_next f i n l =
    let k : n - i ≡ suc (n - (i + 1)) = omega arith in
    let j : suc i ≡ i + 1 = omega arith in
    rw (k, j)

pub edges_next : (v : List Float) (i : ℕ) → i + 1 < count v → run (edge_at v) i (count v - i) ≡ chord_of v i (i + 1) ∷ run (edge_at v) (i + 1) (count v - (i + 1))
edges_next v i l =
    let e = next_edge v i (vertex_at v i) (vertex_at v (i + 1)) (omega arith) refl l refl in
    run_next (edge_at v) i (count v) (omega arith) ∙ ap (λ (f : Edge). f ∷ run (edge_at v) (i + 1) (count v - (i + 1))) (sym e)

-- ---- m + 1 edges drawn as one: S says what holds of the list after so many steps, P what holds of the vertices
module _ (v : List Float) (xs : List Edge) (P : ℕ → Type 0) (S : ℕ → List Edge → Type 0)
    (join : (m i j : ℕ) (ys : List Edge) → j + 1 < count v → i ≤ j → P i → P j → P (j + 1) → S m (xs ++ (chord_of v i j ∷ chord_of v j (j + 1) ∷ ys))
    → S (suc m) (xs ++ (chord_of v i (j + 1) ∷ ys))) where
  chord_drawn : (i m : ℕ) → i + 1 + m < count v → ((k : ℕ) → i ≤ k → k ≤ i + 1 + m → P k) → S 0 (xs ++ run (edge_at v) i (count v - i))
      → S m (xs ++ (chord_of v i (i + 1 + m) ∷ run (edge_at v) (i + 1 + m) (count v - (i + 1 + m))))
  chord_drawn i zero l p h =
      let z : i + 1 + 0 ≡ i + 1 = omega arith in
      rw z (rw (edges_next v i (omega arith)) at h)
  chord_drawn i (suc m) l p h =
      let z : i + 1 + suc m ≡ i + 1 + m + 1 = omega arith in
      let rest = chord_drawn i m (omega arith) (λ k a b. p k a (omega arith)) h in
      let a = p i (omega arith) (omega arith) in
      let b = p (i + 1 + m) (omega arith) (omega arith) in
      let c = p (i + 1 + m + 1) (omega arith) (omega arith) in
      rw z (join m i (i + 1 + m) _ (omega arith) (omega arith) a b c (rw (edges_next v (i + 1 + m) (omega arith)) at rest))

-- ---- vertices outside one of the bounds
same_itself : (p : Point) → FieldPoint p → same_point p p ≡ true
same_itself p f = rw (one p.x f.x, one p.y f.y)
  where
    one : (x : Float) → FieldValue x → eq x x ≡ true
    one x h = is_true (eq x x) (level_self x (left_not_nan x limit (and_r (le (neg limit) x) (le x limit) h.in_field)))

module _ {low high : HalfPlane} {v : List Float} (s : StripOf low high v) where
  chord_field : (i j : ℕ) → i < count v → j < count v → FieldEdge (chord_of v i j)
  chord_field i j l m = record { a = field_vertex v s.numbers i l; b = field_vertex v s.numbers j m }

  both_dropped : (h : HalfPlane) → FieldValue h.v → (i j : ℕ) → j + 1 < count v → i ≤ j
      → in_half_plane h (vertex_at v i) ≡ false → in_half_plane h (vertex_at v j) ≡ false → in_half_plane h (vertex_at v (j + 1)) ≡ false
      → BothDropped h (chord_of v i j) (chord_of v j (j + 1))
  both_dropped h f i j l m p q r = record {
    first = side_part h (chord_of v i j) (chord_field i j (omega arith) (omega arith)) f false p q;
    second = side_part h (chord_of v j (j + 1)) (chord_field j (j + 1) (omega arith) l) f false q r;
    across = side_part h (chord_of v i (j + 1)) (chord_field i (j + 1) (omega arith) l) f false p r;
  }

  inside_low : (i : ℕ) → i < count v → in_half_plane high (vertex_at v i) ≡ false → in_half_plane low (vertex_at v i) ≡ true
  inside_low i l p = s.one_side (vertex_at v i) (field_vertex v s.numbers i l) p

  both_kept : (i j : ℕ) → j + 1 < count v → i ≤ j
      → in_half_plane high (vertex_at v i) ≡ false → in_half_plane high (vertex_at v j) ≡ false → in_half_plane high (vertex_at v (j + 1)) ≡ false
      → BothKept low (chord_of v i j) (chord_of v j (j + 1))
  both_kept i j l m p q r =
      let a = inside_low i (omega arith) p in
      let b = inside_low j (omega arith) q in
      let c = inside_low (j + 1) l r in
      record {
        first = side_part low (chord_of v i j) (chord_field i j (omega arith) (omega arith)) s.low_bound true a b;
        second = side_part low (chord_of v j (j + 1)) (chord_field j (j + 1) (omega arith) l) s.low_bound true b c;
        across = side_part low (chord_of v i (j + 1)) (chord_field i (j + 1) (omega arith) l) s.low_bound true a c;
        meet = same_itself (vertex_at v j) (field_vertex v s.numbers j (omega arith));
      }

  -- THE EDGES between vertices outside the low bound, and those between vertices outside the high one
  pub low_drawn : (k i m : ℕ) (es xs : List Edge) → i + 1 + m < count v → ((j : ℕ) → i ≤ j → j ≤ i + 1 + m → in_half_plane low (vertex_at v j) ≡ false)
      → Shortened low high k es (xs ++ run (edge_at v) i (count v - i))
      → Shortened low high k es (xs ++ (chord_of v i (i + 1 + m) ∷ run (edge_at v) (i + 1 + m) (count v - (i + 1 + m))))
  low_drawn k i m es xs =
      chord_drawn v xs (λ j. in_half_plane low (vertex_at v j) ≡ false) (λ n fs. Shortened low high k es fs)
      (λ n i j ys l a p q r h. outside_low xs ys (both_dropped low s.low_bound i j l a p q r) h) i m

  pub high_drawn : (k i m : ℕ) (es xs : List Edge) → i + 1 + m < count v → ((j : ℕ) → i ≤ j → j ≤ i + 1 + m → in_half_plane high (vertex_at v j) ≡ false)
      → Shortened low high k es (xs ++ run (edge_at v) i (count v - i))
      → Shortened low high (m + k) es (xs ++ (chord_of v i (i + 1 + m) ∷ run (edge_at v) (i + 1 + m) (count v - (i + 1 + m))))
  high_drawn k i m es xs l p h =
      chord_drawn v xs (λ j. in_half_plane high (vertex_at v j) ≡ false) (λ n fs. Shortened low high (n + k) es fs)
      (λ n i j ys l a p q r h. again n (outside_high xs ys (both_kept i j l a p q r) (both_dropped high s.high_bound i j l a p q r) h)) i m l p (start h)
    where
      start : {fs : List Edge} → Shortened low high k es fs → Shortened low high (0 + k) es fs
      start {fs} h = let z : 0 + k ≡ k = omega arith in rw z h

      again : {fs : List Edge} (n : ℕ) → Shortened low high (suc (n + k)) es fs → Shortened low high (suc n + k) es fs
      again {fs} n h = let z : suc n + k ≡ suc (n + k) = omega arith in rw z h

  -- ---- as a chord: of one edge, and of more than one
  pub edge_drawn : (i : ℕ) → i < count v → Drawn low high v i (i + 1) 0
  edge_drawn i l = record {
    forward = omega arith;
    fits = omega arith;
    drawn = λ k es xs h. let a : i + 1 - 1 ≡ i = omega arith in let z : 0 + k ≡ k = omega arith in rw (a, z) (rw (run_next (edge_at v) i (count v) l) at h);
  }

  not_last : (to : ℕ) → 1 ≤ to → to < count v → after (count v) (to - 1) ≡ to
  not_last to a l = let z : to - 1 + 1 ≡ to = omega arith in rw (z, ne_eqb to (count v) (λ e. omega arith))

  pub low_chord : (i to : ℕ) → i < to → to < count v → ((j : ℕ) → i ≤ j → j ≤ to → in_half_plane low (vertex_at v j) ≡ false) → Drawn low high v i to 0
  low_chord i to l m p =
      let n : i + 1 + (to - i - 1) ≡ to = omega arith in
      record {
        forward = omega arith;
        fits = omega arith;
        drawn = λ k es xs h.
            let z : 0 + k ≡ k = omega arith in
            rw (z, not_last to (omega arith) m) (rw n at (low_drawn k i (to - i - 1) es xs (omega arith) (λ j a b. p j a (omega arith)) h));
      }

  pub high_chord : (i to : ℕ) → i < to → to < count v → ((j : ℕ) → i ≤ j → j ≤ to → in_half_plane high (vertex_at v j) ≡ false)
      → Drawn low high v i to (to - i - 1)
  high_chord i to l m p =
      let n : i + 1 + (to - i - 1) ≡ to = omega arith in
      record {
        forward = omega arith;
        fits = omega arith;
        drawn = λ k es xs h. rw (not_last to (omega arith) m) (rw n at (high_drawn k i (to - i - 1) es xs (omega arith) (λ j a b. p j a (omega arith)) h));
      }

-- ---- the chords that are written: with the edges that are left they are the outline's, shortened
module _ {low high : HalfPlane} (v : List Float) where
  pub chords_begin : (w : List Float) → Shortened low high 0 (edges v) (lines_from w 0 0 0 ++ run (edge_at v) 0 (count v - 0))
  unfolding run edges
  chords_begin w = rw (sub-zero (count v)) as_it_is

  pub chord_more : (w u : List Float) (n : ℕ) {k i to more : ℕ} {a b : Point} → Drawn low high v i to more → a ≡ vertex_at v i
      → b ≡ vertex_at v (after (count v) (to - 1))
      → lines_from u 0 0 (n + 1) ≡ lines_from w 0 0 n ++ (record { a = a; b = b } ∷ [])
      → Shortened low high k (edges v) (lines_from w 0 0 n ++ run (edge_at v) i (count v - i))
      → Shortened low high (k + more) (edges v) (lines_from u 0 0 (n + 1) ++ run (edge_at v) to (count v - to))
  chord_more w u n {k} {i} {to} {more} {a} {b} d p r q h =
      let z : k + more ≡ more + k = omega arith in
      rw (q, z, append_assoc (lines_from w 0 0 n) (record { a = a; b = b } ∷ []) (run (edge_at v) to (count v - to)), p, r)
      (d.drawn k (edges v) (lines_from w 0 0 n) h)

  pub chords_end : (w : List Float) (n i : ℕ) {k : ℕ} → i ≡ count v
      → Shortened low high k (edges v) (lines_from w 0 0 n ++ run (edge_at v) i (count v - i)) → Shortened low high k (edges v) (lines_from w 0 0 n)
  unfolding run
  chords_end w n i e h = rw (e, sub_self (count v), append-nil (lines_from w 0 0 n)) at h
