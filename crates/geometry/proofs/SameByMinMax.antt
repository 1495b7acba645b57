-- THE RUST'S BOUNDS AND LOCATION, by IEEE 754's minimum and maximum: of every accepted call the bounds are the same but for the signs of zeros,
-- and the location is the same. Assumes nothing.
use mathlib.Core.Path.{◌≡◌, refl, sym, subst}
use mathlib.Core.Bool.{not}
use mathlib.Core.List.{List, [], ◌∷◌}
use Prim.Native.Nat.{ℕ, ◌+◌, ◌<◌}
use native.Mathlib.Omega.{arith}
use borrow.Author.Tests.{not-false}
use lib.Dec.{T}
use lib.Ieee.{Float}
use lib.Ieee.Fits.{and_l, and_r}
use Rattle.number.specs.Signs.{min_of, max_of}
use Rattle.number.proofs.OrderLaws.{le_self, level_both, at_most_level}
use Rattle.boundary.specs.declared.Point.{Point}
use Rattle.boundary.specs.declared.Edge.{Edge}
use Rattle.boundary.specs.declared.Bounds.{Bounds}
use Rattle.boundary.specs.Boxes.{PointOf, EdgeOf, SameBox, is_in_field, point_in_field, edge_in_field, lesser, greater, hull_ieee, empty_box, point_box}
use Rattle.boundary.specs.Outline.{count, vertex_at, edge_at, vertices, edges}
use Rattle.boundary.proofs.FieldLaws.{in_field_number}
use Rattle.boundary.proofs.AroundLaws.{NotNan, NumberBox, same_self, empty_number}
use Rattle.boundary.proofs.MinMaxLaws.{lesser_is_min, greater_is_max, same_fold}
use Rattle.lists.specs.Lists.{fold}
use Rattle.lists.proofs.FoldLaws.{any_same}
use Rattle.lists.proofs.MemberLaws.{every_run}
use Rattle.boundary.proofs.FieldLaws.{edge_in_field_lem}
use Rattle.accept.specs.declared.Refusal.TheVariants.{BadPoint}
use Rattle.accept.specs.Refusals.{all_passed, outline_tested}
use Rattle.accept.proofs.TestLaws.{refusing_passed, accepted_field}
use Rattle.geometry.specs.Polygon.{between_ends, on_edge, locate_of, bounds_of, between_rust, on_edge_rust, locate_rust, fold_by, bounds_rust}
use Rattle.geometry.specs.Answers.{outline_query_tested}

-- ---- the numbers of an accepted outline
point_numbers : (p : Point) → T (point_in_field p) → PointOf NotNan p
point_numbers p h = record {
  x = in_field_number p.x (and_l (is_in_field p.x) (is_in_field p.y) h);
  y = in_field_number p.y (and_r (is_in_field p.x) (is_in_field p.y) h);
}

edge_numbers : (v : List Float) → outline_tested v ≡ all_passed → (i : ℕ) → i < count v → EdgeOf NotNan (edge_at v i)
edge_numbers v passed i l =
    let h : T (edge_in_field (edge_at v i)) = subst T (sym (edge_in_field_lem v (accepted_field v passed).0 i l)) tt in
    let e = edge_at v i in
    record {
      a = point_numbers e.a (and_l (point_in_field e.a) (point_in_field e.b) h);
      b = point_numbers e.b (and_r (point_in_field e.a) (point_in_field e.b) h);
    }

-- ---- bounds
-- folding boxes folds each of their corner numbers
fold_corners : (ps : List Point) (b : Bounds) → fold (λ b p. hull_ieee b (point_box p)) b ps ≡ record {
  min = record { x = fold_by min_of (λ p. p.x) b.min.x ps; y = fold_by min_of (λ p. p.y) b.min.y ps };
  max = record { x = fold_by max_of (λ p. p.x) b.max.x ps; y = fold_by max_of (λ p. p.y) b.max.y ps };
}
unfolding fold hull_ieee
fold_corners [] b = refl
fold_corners (p ∷ ps) b = fold_corners ps (hull_ieee b (point_box p))

-- BOUNDS
pub bounds_rust_lem : (v : List Float) → outline_tested v ≡ all_passed → SameBox (bounds_of (vertices v)) (bounds_rust (vertices v))
unfolding bounds_of bounds_rust vertices
bounds_rust_lem v passed =
    let number : (j : ℕ) → j < 0 + count v → NumberBox (point_box (vertex_at v j)) = λ j l. let e = edge_numbers v passed j (omega arith) in record { min = e.a; max = e.a } in
    let N = every_run (λ p. NumberBox (point_box p)) (vertex_at v) 0 (count v) number in
    let s = same_fold point_box (vertices v) empty_box empty_box N (same_self empty_box empty_number) in
    subst (SameBox (bounds_of (vertices v))) (fold_corners (vertices v) empty_box) s

-- ---- location
between_same : (a b q : Float) → NotNan a → NotNan b → NotNan q → between_ends a b q ≡ between_rust a b q
between_same a b q A B Q =
    let low = level_both (lesser a b) (min_of a b) (lesser_is_min a b A B) in
    let high = level_both (greater a b) (max_of a b) (greater_is_max a b A B) in
    let s = le_self q Q in
    rw (at_most_level (lesser a b) (min_of a b) q q low.0 low.1 s s, at_most_level q q (greater a b) (max_of a b) s s high.0 high.1)

on_edge_same : (p : Point) (e : Edge) → PointOf NotNan p → EdgeOf NotNan e → on_edge p e ≡ on_edge_rust p e
unfolding on_edge on_edge_rust
on_edge_same p e P E =
    rw (between_same e.a.x e.b.x p.x E.a.x E.b.x P.x, between_same e.a.y e.b.y p.y E.a.y E.b.y P.y)

-- LOCATION
pub locate_rust_lem : (v : List Float) (p : Point) → outline_query_tested v p ≡ all_passed → locate_of (edges v) p ≡ locate_rust (edges v) p
unfolding locate_of locate_rust edges outline_query_tested
locate_rust_lem v p passed =
    let two = refusing_passed (outline_tested v) BadPoint (not (point_in_field p)) passed in
    let P = point_numbers p (subst T (sym (not-false (point_in_field p) two.1)) tt) in
    let same : (j : ℕ) → j < 0 + count v → on_edge p (edge_at v j) ≡ on_edge_rust p (edge_at v j) = λ j l. on_edge_same p (edge_at v j) P (edge_numbers v two.0 j (omega arith)) in
    rw (any_same (on_edge p) (on_edge_rust p) (edges v) (every_run (λ e. on_edge p e ≡ on_edge_rust p e) (edge_at v) 0 (count v) same))
