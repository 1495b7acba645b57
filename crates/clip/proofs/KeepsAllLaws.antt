-- A clip that keeps every line whole hands its list on, and that is a clip that marks all parts inside and cuts no line; both ends of a line inside keep it whole. Assumes nothing.
use mathlib.Core.Path.{◌≡◌, refl, sym, ap, ◌∙◌}
use mathlib.Core.Bool.{Bool, true, false, not, cond, true≢false}
use mathlib.Core.List.{List, [], ◌∷◌, flat_map}
use Prim.Native.Nat.{ℕ, ◌+◌, ◌*◌, ◌<◌}
use native.Mathlib.Omega.{arith}
use lib.Dec.{eqb}
use lib.IntN.{pos, negsuc}
use lib.ListN.{length}
use lib.Ieee.{Float, fin, add, sub, mul, div, lt, le, ne, eq}
use borrow.Author.Tests.{eqb-false}
use Rattle.number.specs.Exact.{zeroᶠ, one}
use Rattle.lists.specs.Lists.{fold, any, Every}
use Rattle.lists.proofs.FoldLaws.{any_append, or_none}
use Rattle.lists.proofs.MemberLaws.{every_run}
use Rattle.boundary.specs.declared.Point.{Point}
use Rattle.boundary.specs.declared.Edge.{Edge}
use Rattle.boundary.specs.Line.{along_of, half}
use Rattle.boundary.specs.Outline.{count, vertex_at, after, edge_at, edges}
use Rattle.boundary.specs.Boxes.{FieldValue, FieldPoint, FieldEdge}
use Rattle.clip.specs.declared.HalfPlane.{HalfPlane}
use Rattle.clip.specs.declared.Stored.{Stored}
use Rattle.clip.specs.Clip.{point_along, coord_of, in_half_plane, crosses, Part, part_of, parts_of, parts, clip_of, KeptWhole, KeepsAll}
use Rattle.clip.specs.Passes.{marks_of, first_part}
use Rattle.clip.specs.Lent.{Stage, Clipped, Untouched}
use Rattle.clip.specs.Bounded.{FieldNumbers, BoundedIn}
use Rattle.clip.proofs.PassLaws.{parts_marks, clip_all}
use Rattle.clip.proofs.OneSideLaws.{side_marks}

-- ---- each line kept whole: all parts are marked inside, and no line is cut
pub whole_inside : (s : HalfPlane) (es : List Edge) → Every (KeptWhole s) es → any (λ p. not p.kept) (parts s es) ≡ false
unfolding parts flat_map Every any fold
whole_inside s [] h = refl
whole_inside s (e ∷ es) h = rw h.0 (whole_inside s es h.1)

-- the list itself
pub whole_adds_none : (s : HalfPlane) (es : List Edge) → Every (KeptWhole s) es → clip_of s es ≡ es
whole_adds_none s es h = clip_all s es (whole_inside s es h)

pub whole_keeps_all : (s : HalfPlane) (es : List Edge) → Every (KeptWhole s) es → KeepsAll s es
whole_keeps_all s es h = record { whole = h; none_added = ap length (whole_adds_none s es h) }

-- a line that is kept whole is not cut
two_one : ◌≡◌ {A = ℕ} 2 1 → ⊥
two_one h = omega arith

one_part : (c : Bool) (p q r t : Part) → cond c (p ∷ q ∷ []) (r ∷ []) ≡ (t ∷ []) → c ≡ false
one_part true p q r t h = absurd (two_one (ap length h))
one_part false p q r t h = refl

whole_crosses : (s : HalfPlane) (e : Edge) → KeptWhole s e → crosses s e ≡ false
unfolding parts_of
whole_crosses s e h = one_part (crosses s e) _ _ _ _ h

pub whole_uncut : (s : HalfPlane) (es : List Edge) → Every (KeptWhole s) es → any (crosses s) es ≡ false
unfolding Every any fold
whole_uncut s [] h = refl
whole_uncut s (e ∷ es) h = rw (whole_crosses s e h.0) (whole_uncut s es h.1)

-- a line that is not cut, and whose part is inside, is kept whole
uncut_part : (s : HalfPlane) (e : Edge) → crosses s e ≡ false → parts_of s e ≡ (record { line = e; kept = in_half_plane s (point_along e half) } ∷ [])
unfolding parts_of
uncut_part s e h = rw h

inside_part : (e : Edge) (k : Bool) → any (λ (p : Part). not p.kept) (record { line = e; kept = k } ∷ []) ≡ false → k ≡ true
unfolding any fold
inside_part e true h = refl
inside_part e false h = absurd (true≢false h)

uncut_whole : (s : HalfPlane) (e : Edge) → crosses s e ≡ false → any (λ p. not p.kept) (parts_of s e) ≡ false → KeptWhole s e
uncut_whole s e h k =
    let p = uncut_part s e h in
    p ∙ ap (λ (b : Bool). record { line = e; kept = b } ∷ []) (inside_part e _ (rw p at k))

pub uncut_inside_whole : (s : HalfPlane) (es : List Edge) → any (crosses s) es ≡ false → any (λ p. not p.kept) (parts s es) ≡ false → Every (KeptWhole s) es
unfolding parts flat_map Every any fold
uncut_inside_whole s [] h k = tt
uncut_inside_whole s (e ∷ es) h k =
    let c = or_none (any (crosses s) (e ∷ [])) (any (crosses s) es) (sym (any_append (crosses s) (e ∷ []) es) ∙ h) in
    let q = or_none (any (λ p. not p.kept) (parts_of s e)) (any (λ p. not p.kept) (parts s es)) (sym (any_append (λ p. not p.kept) (parts_of s e) (parts s es)) ∙ k) in
    (uncut_whole s e c.0 q.0, uncut_inside_whole s es c.1 q.1)

-- ---- such a clip writes nothing, and its list stands where it stood
pub hands_on : {half : ℕ} {s : HalfPlane} {w v : List Float} {c r : Stored} {es : List Edge} → Clipped half s w v c r → Stage half w c false es → KeepsAll s es → Untouched w v c r
hands_on {s = s} {es = es} c h k = c.untouched es h (whole_inside s es k.whole)

-- ---- a line with both ends inside is kept whole, and one with both ends outside dropped whole
coord_field : (y : Bool) (p : Point) → FieldPoint p → FieldValue (cond y p.y p.x)
coord_field true p f = f.y
coord_field false p f = f.x

pub side_part : (s : HalfPlane) (e : Edge) → FieldEdge e → FieldValue s.v → (k : Bool) → in_half_plane s e.a ≡ k → in_half_plane s e.b ≡ k
    → parts_of s e ≡ (record { line = e; kept = k } ∷ [])
unfolding in_half_plane marks_of first_part
side_part s e f fv k p q =
    let m = side_marks s (coord_of s e.a) (coord_of s e.b) (coord_field s.y e.a f.a) (coord_field s.y e.b f.b) fv k p q in
    parts_marks s e ∙ rw m

pub within_whole : (s : HalfPlane) (e : Edge) → FieldEdge e → FieldValue s.v → in_half_plane s e.a ≡ true → in_half_plane s e.b ≡ true → KeptWhole s e
within_whole s e f fv p q = side_part s e f fv true p q

pub field_vertex : (v : List Float) → FieldNumbers v → (i : ℕ) → i < count v → FieldPoint (vertex_at v i)
field_vertex v f i l = record { x = f (2 * i) (omega arith); y = f (2 * i + 1) (omega arith) }

-- an outline with all vertices inside: every edge
pub outline_whole : (s : HalfPlane) (v : List Float) → BoundedIn s v → ((i : ℕ) → i < count v → in_half_plane s (vertex_at v i) ≡ true) → Every (KeptWhole s) (edges v)
unfolding edges
outline_whole s v f h = every_run (KeptWhole s) (edge_at v) 0 (count v) (λ j l. at j (omega arith))
  where
    after_below : (i : ℕ) → i < count v → (b : Bool) → eqb (i + 1) (count v) ≡ b → cond b 0 (i + 1) < count v
    after_below i l true e = omega arith
    after_below i l false e = let d = eqb-false (i + 1) (count v) e in omega arith

    at : (i : ℕ) → i < count v → KeptWhole s (edge_at v i)
    at i l =
        let n : after (count v) i < count v = after_below i l (eqb (i + 1) (count v)) refl in
        let e : FieldEdge (edge_at v i) = record { a = field_vertex v f.numbers i l; b = field_vertex v f.numbers (after (count v) i) n } in
        within_whole s (edge_at v i) e f.bound (h i l) (h (after (count v) i) n)

-- ---- off the grid all parts of a line can be marked inside though it is cut: the middle of its first part is rounded to the bound
-- x ≥ 1, and the line from (1 - 2^-53, 0) to (2, 0)
abbrev pub at_one : HalfPlane
at_one = record { y = false; above = true; v = one }

abbrev pub from_below : Edge
from_below = record { a = record { x = fin false 9007199254740991 (negsuc 52); y = zeroᶠ }; b = record { x = fin false 1 (pos 1); y = zeroᶠ } }

pub cut_both_inside : (crosses at_one from_below ≡ true) × (any (λ p. not p.kept) (parts at_one (from_below ∷ [])) ≡ false)
unfolding parts parts_of part_of flat_map any fold crosses point_along along_of in_half_plane add sub mul div lt le ne eq
cut_both_inside = (refl, refl)
