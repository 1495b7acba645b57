-- What the call answers for an ellipse: it is finite, and comes from a point in the quadrant of the query. Assumes nothing.
use Rattle.std.proofs.Common.{Ok, Err}
use mathlib.Core.Path.{◌≡◌, refl, sym, subst}
use mathlib.Core.Bool.{Bool, false, not, ◌&&◌}
use Prim.Native.Nat.{ℕ}
use native.Mathlib.Omega.{arith}
use borrow.Author.Tests.{not-false}
use lib.Dec.{T}
use lib.Ieee.{Float, binary64, add, sub, neg, le, fits}
use lib.Ieee.Fits.{and_l, and_r, sub-fits}
use Rattle.number.specs.Exact.{zeroᶠ}
use Rattle.number.specs.Hypot.{hypot_of}
use Rattle.number.specs.Signs.{abs_of}
use Rattle.boundary.specs.declared.Point.{Point}
use Rattle.boundary.specs.declared.Distance.{Distance}
use Rattle.distance.specs.Ellipse.{ellipse_nearest, ellipse_near}
use Rattle.distance.specs.Piece.{piece_near}
use Rattle.accept.specs.declared.Refusal.{Refusal}
use Rattle.accept.specs.declared.Refusal.TheVariants.{BadPoint, BadEllipse}
use Rattle.accept.specs.Refusals.{Test, all_passed, ◌refusing◌when◌, given, Answer}
use Rattle.accept.proofs.TestLaws.{refusing_passed}
use Rattle.boundary.specs.Boxes.{is_in_field, point_in_field}
use Rattle.ellipse.specs.Ellipse.{axis_fits, offset_fits, ellipse_fits, ellipse_tested, ellipse_answer}
use Rattle.boundary.specs.Line.{less_point}
use Rattle.ellipse.specs.Meaning.{Offset, FitsPoint, QuadrantAnswer}
use Rattle.number.proofs.HypotRange.{power, doubled_94}
use Rattle.ellipse.proofs.Ranges.{Ranged, Bounded, tested_range, sum_range, difference_range, abs_range, hypot_range}
use Rattle.ellipse.proofs.Nearest.{FoundPoint, ellipse_found}

-- ---- what the tests say
abbrev InField : Float → Type 0
InField x = Bounded 20 x

field_range : {x : Float} → T (fits binary64 x) → T (is_in_field x) → InField x
unfolding neg fits
field_range {x} F t = tested_range x F t tt

offset_of : {c p : Float} → InField c → InField p → T (offset_fits c p) → Offset (sub binary64 p c)
unfolding offset_fits fits
offset_of {c} {p} C P t =
    let d : Bounded 21 (sub binary64 p c) = difference_range P C tt in
    let m : Ranged zeroᶠ (power 21) (abs_of (sub binary64 p c)) = abs_range d tt in
    record { fits = sub-fits binary64 p c; most = m.high; least = t }

refused_not_away : {n : Refusal} {r : Distance} {X : Type 0} → ◌≡◌ {A = Answer Distance} (Err n) (Ok r) → X
refused_not_away e = let z : ◌≡◌ {A = ℕ} 0 1 = cc in absurd (omega arith)

away_same : {r s : Distance} → ◌≡◌ {A = Answer Distance} (Ok r) (Ok s) → r ≡ s
away_same e = cc

-- ---- one coordinate: moved back, and less than the point's
moved_range : {c q : Float} → InField c → Bounded 92 q → Bounded 93 (add binary64 c q)
unfolding add neg le fits
moved_range C Q = sum_range C Q tt

apart_range : {p q : Float} → InField p → Bounded 93 q → Bounded 94 (sub binary64 p q)
unfolding sub le fits
apart_range P Q = difference_range P Q tt

length_range : {x y : Float} → Bounded 94 x → Bounded 94 y → Ranged zeroᶠ (power 95) (hypot_of x y)
unfolding neg le fits
length_range X Y = hypot_range 94 doubled_94 tt X Y tt tt tt tt

-- the distance of p, and the nearest point
abbrev near_of : Point → Float → Float → Point → Distance
near_of c a b p = record { d = (ellipse_near c a b p).d; v = (ellipse_near c a b p).q }

module _ {c p : Point} {a b : Float} (Cx : InField c.x) (Cy : InField c.y) (Px : InField p.x) (Py : InField p.y) (F : FoundPoint (less_point p c) (ellipse_nearest a b (less_point p c))) where
  near_answer : QuadrantAnswer c a b p (near_of c a b p)
  unfolding ellipse_near
  near_answer =
      let x = moved_range Cx F.x in
      let y = moved_range Cy F.y in
      let d = length_range (apart_range Px x) (apart_range Py y) in
      record { distance = d.held.finite; not_negative = d.low; nearest = record { x = x.held.finite; y = y.held.finite }; moved = refl; quadrant = F.quadrant }

-- ---- the theorem
-- both points are in the field, and the ellipse fits
ellipse_passed : (c : Point) (a b : Float) (p : Point) → ellipse_tested c a b p ≡ all_passed → T (point_in_field p) × T (point_in_field c) × T (ellipse_fits c a b p)
unfolding ellipse_tested
ellipse_passed c a b p e =
    let point = all_passed refusing BadPoint when not (point_in_field p) in
    let centre = point refusing BadPoint when not (point_in_field c) in
    let t12 = refusing_passed centre BadEllipse _ e in
    let t10 = refusing_passed point BadPoint _ t12.0 in
    let t = refusing_passed all_passed BadPoint _ t10.0 in
    (holds (point_in_field p) t.1, holds (point_in_field c) t10.1, holds (ellipse_fits c a b p) t12.1)
  where
    holds : (x : Bool) → not x ≡ false → T x
    holds x e = subst T (sym (not-false x e)) tt

pub quadrant_answer : {c : Point} {a b : Float} {p : Point} {r : Distance} → FitsPoint c → T (fits binary64 a) → T (fits binary64 b) → FitsPoint p → ellipse_answer c a b p ≡ Ok r → QuadrantAnswer c a b p r
unfolding ellipse_answer ellipse_fits given piece_near
quadrant_answer {c} {a} {b} {p} {r} C A B P e = go (ellipse_tested c a b p) refl e
  where
    away : T (point_in_field p) → T (point_in_field c) → T (ellipse_fits c a b p) → QuadrantAnswer c a b p (near_of c a b p)
    away ps cs t =
        let Px = field_range P.x (and_l (is_in_field p.x) (is_in_field p.y) ps) in
        let Py = field_range P.y (and_r (is_in_field p.x) (is_in_field p.y) ps) in
        let Cx = field_range C.x (and_l (is_in_field c.x) (is_in_field c.y) cs) in
        let Cy = field_range C.y (and_r (is_in_field c.x) (is_in_field c.y) cs) in
        let axes = and_l (axis_fits a && axis_fits b) (offset_fits c.x p.x && offset_fits c.y p.y) t in
        let offs = and_r (axis_fits a && axis_fits b) (offset_fits c.x p.x && offset_fits c.y p.y) t in
        near_answer Cx Cy Px Py (ellipse_found
        (record { fits = A; test = and_l (axis_fits a) (axis_fits b) axes })
        (record { fits = B; test = and_r (axis_fits a) (axis_fits b) axes })
        (offset_of Cx Px (and_l (offset_fits c.x p.x) (offset_fits c.y p.y) offs))
        (offset_of Cy Py (and_r (offset_fits c.x p.x) (offset_fits c.y p.y) offs)))

    go : (t : Test) → ellipse_tested c a b p ≡ t → given t (Ok (near_of c a b p)) Err ≡ Ok r → QuadrantAnswer c a b p r
    go (Ok _) t e = let f = ellipse_passed c a b p t in subst (QuadrantAnswer c a b p) (away_same e) (away f.0 f.1 f.2)
    go (Err n) t e = refused_not_away e
