-- The clip by two passes over whole lines, as the code does it: the first looks at the marks, the second writes a path. Inner definitions, proved equal to those of Clip. Definitions only.
use Rattle.std.specs.Prelude.{Bool, true, false, not, ◌&&◌, ◌||◌, cond, List, [], ◌∷◌, ◌++◌, ℕ, suc, ltb, length, Float, Option, Some, None}
use Rattle.std.specs.Option.{is_some}
use Rattle.std.specs.Float.{binary64}
use Rattle.std.specs.Float.Ieee.{add, sub, mul, div, lt, le, ne}
use Rattle.number.specs.Exact.{zeroᶠ, one}
use Rattle.boundary.specs.declared.Point.{Point}
use Rattle.boundary.specs.declared.Edge.{Edge}
use Rattle.lists.specs.Lists.{fold}
use Rattle.boundary.specs.Line.{along_of}
use Rattle.boundary.specs.Line.{half}
use Rattle.clip.specs.declared.HalfPlane.{HalfPlane}
use Rattle.clip.specs.declared.Marks.{Marks}
use Rattle.clip.specs.declared.FirstPass.{FirstPass}
use Rattle.clip.specs.declared.FirstPass.TheVariants.{StartsAt, AllKept, NoneKept}
use Rattle.clip.specs.declared.PathEnds.{PathEnds}
use Rattle.clip.specs.Clip.{point_along, coord_of, joint}

-- ---- the marks of a line
-- whether a coordinate is inside
abbrev pub coord_inside : HalfPlane → Float → Bool
coord_inside s c = cond s.above (le s.v c) (le c s.v)

-- whether a line is cut: its coordinate, which grows by d, meets the bound at u
abbrev pub cut_at : Float → Float → Bool
cut_at d u = (ne d zeroᶠ && lt zeroᶠ u) && lt u one

-- whether the point at u is, on a line whose coordinate goes from a to b
unfoldable pub mark_at : HalfPlane → Float → Float → Float → Bool
mark_at s a b u = coord_inside s (along_of a b u)

-- the marks of a line that is not cut, whose coordinate goes from a to b: its midpoint marks it
unfoldable pub uncut_of : HalfPlane → Float → Float → Marks
uncut_of s a b = let whole = mark_at s a b half in record { cut = None; start_kept = whole; end_kept = whole }

-- whether such a line is cut and where, and the marks of its first and its last part, by their midpoints
unfoldable pub marks_between : HalfPlane → Float → Float → Marks
marks_between s a b =
    let d = sub binary64 b a in
    let u = div binary64 (sub binary64 s.v a) d in
    cond (cut_at d u)
    (record { cut = Some u; start_kept = mark_at s a b (mul binary64 half (add binary64 zeroᶠ u)); end_kept = mark_at s a b (mul binary64 half (add binary64 u one)) })
    (uncut_of s a b)

-- the marks of a line, by the coordinate that the half-plane bounds
unfoldable pub marks_of : HalfPlane → Edge → Marks
marks_of s e = marks_between s (coord_of s e.a) (coord_of s e.b)

-- the first part and the last of a line that is cut at u
abbrev pub before_cut : Edge → Float → Edge
before_cut e u = record { a = point_along e zeroᶠ; b = point_along e u }

abbrev pub after_cut : Edge → Float → Edge
after_cut e u = record { a = point_along e u; b = e.b }

-- a line that is not cut is its own first part; its last begins where it starts
unfoldable pub first_part : Marks → Edge → Edge
first_part m e = elim m.cut [ None ↦ e | Some u ↦ before_cut e u ]

unfoldable pub last_part : Marks → Edge → Edge
last_part m e = elim m.cut [ None ↦ after_cut e zeroᶠ | Some u ↦ after_cut e u ]

-- ---- the first pass
-- a line comes in: a part of it is kept, and the part before that one is not
abbrev pub comes_in : Bool → Marks → Bool
comes_in before m = (m.start_kept && not before) || (m.end_kept && not m.start_kept)

-- how many lines stand before the first that comes in; `before` is the mark of the part before them
unfoldable pub start_line : HalfPlane → Bool → List Edge → ℕ
start_line s before [] = 0
start_line s before (e ∷ es) = cond (comes_in before (marks_of s e)) 0 (suc (start_line s (marks_of s e).end_kept es))

-- the last line is the one before the first; where none comes in, all parts are marked as the last one is
abbrev pub first_pass_of : HalfPlane → Edge → List Edge → FirstPass
first_pass_of s last es =
    let kept = (marks_of s last).end_kept in
    let start = start_line s kept es in
    cond (ltb start (length es)) (StartsAt start kept) (cond kept AllKept NoneKept)

-- whether the end of the last line is kept, which the answer tells in each case
abbrev pub last_end_kept : FirstPass → Bool
last_end_kept (StartsAt start kept) = kept
last_end_kept AllKept = true
last_end_kept NoneKept = false

-- ---- the second pass
-- a path: where it starts and ends, if it has begun, and its lines
pub record Path : Type 0 where
  pub ends : Option PathEnds
  pub out : List Edge

-- a line that is written or not
abbrev pub if_on : Bool → Edge → List Edge
if_on on e = cond on (e ∷ []) []

-- the joint from the end of a path to q
abbrev pub joint_to : Option PathEnds → Point → List Edge
joint_to None q = []
joint_to (Some p) q = joint p.last q

-- where a path starts and ends with e after it
abbrev pub moved_of : Option PathEnds → Edge → PathEnds
moved_of None e = record { start = e.a; last = e.b }
moved_of (Some p) e = record { start = p.start; last = e.b }

-- the path with e after it, where e is kept
unfoldable pub followed : Path → Edge → Bool → Path
followed t e true = record { ends = Some (moved_of t.ends e); out = (t.out ++ joint_to t.ends e.a) ++ (e ∷ []) }
followed t e false = t

-- the path with the parts of e after it
unfoldable pub step_of : HalfPlane → Path → Edge → Path
step_of s t e =
    let m = marks_of s e in
    followed (followed t (first_part m e) m.start_kept) (last_part m e) (is_some m.cut && m.end_kept)

abbrev pub nothing : Path
nothing = record { ends = None; out = [] }

-- the joint from the end of a path to its start
abbrev pub closing : Option PathEnds → List Edge
closing None = []
closing (Some p) = joint_to (Some p) p.start

-- the path closed
unfoldable pub closed_path : Path → List Edge
closed_path t = t.out ++ closing t.ends

-- the closed path of the lines of es, and then of those of fs
unfoldable pub traced : HalfPlane → List Edge → List Edge → List Edge
traced s es fs = closed_path (fold (step_of s) (fold (step_of s) nothing es) fs)
