-- An outline on the grid that making accepts is made into one that passes tests 1 to 9. Assumes nothing.
use Rattle.std.proofs.Common.{Ok, Err}
use mathlib.Core.Path.{◌≡◌, refl, sym, ap, ap₂, ◌∙◌, subst}
use mathlib.Core.Bool.{Bool, true, false, not, ◌&&◌, ◌||◌, cond, and_comm}
use mathlib.Core.List.{List, [], ◌∷◌, reverse}
use Prim.Native.Nat.{ℕ, ◌*◌, ◌%◌}
use native.Mathlib.Omega.{arith}
use borrow.Author.Tests.{eqb-false}
use lib.Dec.{ltb}
use lib.IntN.{ℤ, pos, neg_ℤ, nat_abs, ◌+ℤ◌}
use lib.ListN.{length, take, drop, length-reverse}
use lib.Seq.{take_at}
use lib.Signed.{le_z}
use lib.Ieee.{Float}
use Rattle.algebra.proofs.Quote.{quote, ring}
use Rattle.algebra.specs.Order.{◌≺◌, absℤ, nonneg_nat, nat_abs_neg, <ℤ→≤ℤ}
use Rattle.algebra.proofs.Lin as L
use Rattle.algebra.proofs.Lin.{lt_from}
use Rattle.number.specs.Exact.{Is, eq_z}
use Rattle.number.proofs.Operations.{is_unique, zero_is}
use Rattle.number.proofs.Compare.{lt_false, is_lt, not_lt, eq_false, lt_is, eq_is}
use Rattle.boundary.specs.declared.Point.{Point}
use Rattle.boundary.specs.declared.Edge.{Edge}
use Rattle.lists.specs.Lists.{any, at_front, Each}
use Rattle.boundary.specs.Outline.{same_point, count, vertices, edges}
use Rattle.accept.specs.declared.Refusal.TheVariants.{ShortBuffer}
use Rattle.accept.specs.Area.{area_of}
use Rattle.accept.specs.Refusals.{Answer, Test, all_passed, given, negative_area, shape_tested, outline_tested}
use Rattle.accept.specs.Answers.{Outcome, refused_with}
use Rattle.geometry.specs.Making.{kept, kept_count, coordinates_of, turned, make_tested, made_of, make_outcome}
use Rattle.grid.specs.Grid.{OutlineOn}
use Rattle.grid.specs.Whole.{PointZ, EdgeZ, edge_z, shoelace_term_z, shoelace_z}
use Rattle.exact.specs.Grid.{PointOn, EdgeOn, EdgesOn}
use Rattle.exact.specs.OneOutline.{MadeOn}
use Rattle.lists.proofs.FoldLaws.{any_never}
use Rattle.lists.proofs.MemberLaws.{any_each, take_each, reverse_each}
use Rattle.exact.proofs.Loop.{loop, edges_loop}
use Rattle.exact.proofs.Turned.{loop_reversed}
use Rattle.exact.proofs.Numbers.{numbers_on}
use Rattle.exact.proofs.WholeEdges.{loop_on, vertices_on}
use Rattle.accept.proofs.TestLaws.{Shape, shape, tested, refusing_passed}
use Rattle.exact.proofs.Tests.{grid_in_field}
use Rattle.exact.proofs.Area.{area_exact}
use Rattle.boundary.proofs.OutlineLaws.{length_vertices, few_edges}
use Rattle.geometry.proofs.CoordinateLaws.{length_numbers, vertices_numbers, numbers_vertices}
use Rattle.grid.proofs.GridLaws.{grid_finite}

-- ---- test 7: whether the ends are equal does not depend on their order
abbrev same_ends : EdgeZ → Bool
same_ends e = eq_z e.a.x e.b.x && eq_z e.a.y e.b.y

same_exact : (e : Edge) (f : EdgeZ) → EdgeOn e f → same_point e.a e.b ≡ same_ends f
same_exact e f E = ap₂ ◌&&◌ (eq_is E.a.x.is E.b.x.is) (eq_is E.a.y.is E.b.y.is)

same_reversed : (qs : List PointZ) → any same_ends (loop edge_z (reverse qs)) ≡ any same_ends (loop edge_z qs)
unfolding any
same_reversed qs = loop_reversed edge_z (λ b e. b || same_ends e) (λ b. b) (λ b e f. swap b (same_ends e) (same_ends f)) (λ s a b. ap (λ t. s || t) (ap₂ ◌&&◌ (equal b.x a.x) (equal b.y a.y))) false qs
  where
    swap : (a b c : Bool) → (a || b || c) ≡ (a || c || b)
    swap true b c = refl
    swap false true true = refl
    swap false true false = refl
    swap false false true = refl
    swap false false false = refl

    equal : (x y : ℤ) → eq_z x y ≡ eq_z y x
    equal x y = and_comm (le_z x y) (le_z y x)

-- ---- tests 8 and 9: backwards, the shoelace sum is the opposite
shoelace_reversed : (qs : List PointZ) → shoelace_z (loop edge_z (reverse qs)) ≡ neg_ℤ (shoelace_z (loop edge_z qs))
unfolding shoelace_z shoelace_term_z
shoelace_reversed qs =
    loop_reversed edge_z (λ z e. z +ℤ shoelace_term_z e) neg_ℤ
    (λ z e f. ring (z ∷ shoelace_term_z e ∷ shoelace_term_z f ∷ []) (search quote depth 30) tt)
    (λ z a b. ring (z ∷ a.x ∷ a.y ∷ b.x ∷ b.y ∷ []) (search quote depth 30) tt) (pos 0) qs

-- ---- an outline of negative area, reversed
edges_numbers : {ps : List Point} {qs : List PointZ} → Each PointOn ps qs → EdgesOn (edges (coordinates_of ps)) (loop edge_z qs)
edges_numbers {ps} r = rw (edges_loop (coordinates_of ps), vertices_numbers ps) (loop_on r)

even_length : {w : List Float} → Shape w → length w ≡ 2 * count w
even_length {w} s = let h = eqb-false (length w % 2) 1 s.even in omega arith

module _ {w : List Float} {qs : List PointZ} (s : Shape w) (r : Each PointOn (vertices w) qs) where
  abbrev back : List Float
  back = coordinates_of (reverse (vertices w))

  back_length : length back ≡ length w
  back_length = length_numbers (reverse (vertices w)) ∙ ap (λ (n : ℕ). 2 * n) (length-reverse (vertices w) ∙ length_vertices w) ∙ sym (even_length s)

  abbrev total : ℤ
  total = shoelace_z (loop edge_z qs)

  area_is : Is 21 (area_of (edges w)) total
  area_is = area_exact (rw (edges_loop w) (loop_on r)) (few_edges w s.few)

  back_few : ltb 4096 (count back) ≡ false
  back_few = rw back_length s.few

  back_area : Is 21 (area_of (edges back)) (neg_ℤ total)
  back_area = subst (Is 21 (area_of (edges back))) (shoelace_reversed qs) (area_exact (edges_numbers (reverse_each r)) (few_edges back back_few))

  module _ (negative : negative_area w ≡ true) where
    above : pos 0 ≺ neg_ℤ total
    above = let h : total ≺ pos 0 = is_lt (sym (lt_is area_is (zero_is 21)) ∙ negative) in lt_from (total ∷ []) (L.lt h ∷ []) (search quote depth 30) (omega arith)

    back_shape : Shape back
    back_shape =
        let on = numbers_on (reverse_each r) in
        record {
          even = rw back_length s.even;
          enough = rw back_length s.enough;
          few = back_few;
          all_finite = any_each (λ x z g. ap not (grid_finite g)) on.on ∙ any_never on.steps;
          all_in_field = any_each (λ x z g. ap not (grid_in_field g)) on.on ∙ any_never on.steps;
          apart = any_each same_exact (edges_numbers (reverse_each r)) ∙ same_reversed qs ∙ sym (any_each same_exact (rw (edges_loop w) (loop_on r))) ∙ s.apart;
          nonzero = eq_is back_area (zero_is 21) ∙ eq_false above;
        }

    back_accepted : outline_tested back ≡ all_passed
    unfolding outline_tested
    back_accepted = rw (tested back_shape, lt_is back_area (zero_is 21), lt_false (<ℤ→≤ℤ above))

    back_magnitude : {z : ℤ} → Is 21 (area_of (edges w)) z → Is 21 (area_of (edges back)) (absℤ z)
    back_magnitude {z} h =
        let same : z ≡ total = is_unique h area_is in
        subst (Is 21 (area_of (edges back))) (sym (nonneg_nat (<ℤ→≤ℤ above)) ∙ ap pos (nat_abs_neg total ∙ ap nat_abs (sym same))) back_area

-- ---- the theorems
-- the made outline
pub made_on : {v : List Float} → OutlineOn v → shape_tested (kept v) ≡ all_passed → MadeOn v (made_of v)
unfolding made_of kept turned outline_tested
made_on {v} g t = made (negative_area w) refl
  where
    w : List Float
    w = kept v

    made : (b : Bool) → negative_area w ≡ b → MadeOn v (coordinates_of (cond b (reverse (vertices w)) (vertices w)))
    made true e =
        let r = (vertices_on (take_each (kept_count v) g.on)).1 in
        let s = shape w t in
        record { on = numbers_on (reverse_each r); accepted = back_accepted s r e; magnitude = back_magnitude s r e }
    made false e =
        let s = shape w t in
        rw (numbers_vertices w (even_length s)) (record {
          on = record { steps = take (kept_count v) g.steps; on = take_each (kept_count v) g.on };
          accepted = rw (t, e);
          magnitude = λ {z} m. subst (Is 21 (area_of (edges w))) (sym (nonneg_nat (not_lt (sym (lt_is m (zero_is 21)) ∙ e)))) m;
        })

-- it has as many vertices as are kept
made_length : (v : List Float) → length (made_of v) ≡ 2 * count (kept v)
unfolding made_of turned
made_length v = length_numbers _ ∙ ap (λ (m : ℕ). 2 * m) (as_many (negative_area (kept v)))
  where
    as_many : (b : Bool) → length (cond b (reverse (vertices (kept v))) (vertices (kept v))) ≡ count (kept v)
    as_many true = length-reverse (vertices (kept v)) ∙ length_vertices (kept v)
    as_many false = length_vertices (kept v)

-- as a call leaves it
pub made_accepted : {v : List Float} (out : List Float) {n : ℕ} → OutlineOn v → (make_outcome v out).answer ≡ Ok n → MadeOn v (take (2 * n) (make_outcome v out).lent)
unfolding make_outcome given at_front
made_accepted {v} out {n} g e = go (make_tested v (length out)) refl e
  where
    w : List Float
    w = kept v

    passed : make_tested v (length out) ≡ all_passed → shape_tested w ≡ all_passed
    passed t = (refusing_passed (shape_tested w) ShortBuffer (ltb (length out) (length v)) (unfold make_tested in t)).0

    left : Test → Outcome (Answer ℕ) (List Float)
    left t = given t (record { answer = Ok (count w); lent = at_front (made_of v) out }) (refused_with out)

    go : (t : Test) → make_tested v (length out) ≡ t → (left t).answer ≡ Ok n → MadeOn v (take (2 * n) (left t).lent)
    go (Err r) t e = absurd (let z : ◌≡◌ {A = ℕ} 0 1 = cc in omega arith)
    go (Ok _) t e =
        let k : count w ≡ n = cc in
        rw (take_at (made_of v) (drop (length (made_of v)) out) (2 * n) (made_length v ∙ ap (λ (m : ℕ). 2 * m) k)) (made_on g (passed t))
