-- A closed list of lines clipped to a half-plane: boundary.rs's `clip` for lines, in its names and order. Definitions only.
use Rattle.std.specs.Prelude.{◌≡◌, Bool, true, false, not, ◌&&◌, cond, ℕ, suc, length, take, drop, Float}
use mathlib.Core.List.{List, [], ◌∷◌, ◌++◌, flat_map}
use Rattle.std.specs.Float.{binary64}
use Rattle.std.specs.Float.Ieee.{add, sub, mul, div, lt, le, ne}
use Rattle.number.specs.Exact.{zeroᶠ, one}
use Rattle.boundary.specs.declared.Point.{Point}
use Rattle.boundary.specs.declared.Edge.{Edge}
use Rattle.lists.specs.Lists.{fold, any, Every}
use Rattle.boundary.specs.Outline.{same_point}
use Rattle.boundary.specs.Line.{along_of}
use Rattle.boundary.specs.Line.{half}
use Rattle.clip.specs.declared.HalfPlane.{HalfPlane}

-- ---- the parts of a line
-- the point at u of 0..1 along the line; u = 1 gives the far end itself
unfoldable pub point_along : Edge → Float → Point
point_along e u = record { x = along_of e.a.x e.b.x u; y = along_of e.a.y e.b.y u }

-- the coordinate that the half-plane bounds
abbrev pub coord_of : HalfPlane → Point → Float
coord_of s p = cond s.y p.y p.x

-- whether a point is inside; equality with the bound is inside
unfoldable pub in_half_plane : HalfPlane → Point → Bool
in_half_plane s p = cond s.above (le s.v (coord_of s p)) (le (coord_of s p) s.v)

-- by how much the coordinate grows along the line, and the u where it meets the bound
abbrev pub growth_of : HalfPlane → Edge → Float
growth_of s e = sub binary64 (coord_of s e.b) (coord_of s e.a)

abbrev pub crossing : HalfPlane → Edge → Float
crossing s e = div binary64 (sub binary64 s.v (coord_of s e.a)) (growth_of s e)

-- whether that is a crossing with 0 < u < 1
unfoldable pub crosses : HalfPlane → Edge → Bool
crosses s e = (ne (growth_of s e) zeroᶠ && lt zeroᶠ (crossing s e)) && lt (crossing s e) one

-- a part of a line, and whether it is kept: whether it is inside
pub record Part : Type 0 where
  pub line : Edge
  pub kept : Bool

-- the part from u to v, marked by its midpoint
unfoldable pub part_of : HalfPlane → Edge → Float → Float → Part
part_of s e u v = record { line = record { a = point_along e u; b = point_along e v }; kept = in_half_plane s (point_along e (mul binary64 half (add binary64 u v))) }

-- a line without such a crossing is one part, marked by its own midpoint
unfoldable pub parts_of : HalfPlane → Edge → List Part
parts_of s e =
    cond (crosses s e) (part_of s e zeroᶠ (crossing s e) ∷ part_of s e (crossing s e) one ∷ [])
    (record { line = e; kept = in_half_plane s (point_along e half) } ∷ [])

unfoldable pub parts : HalfPlane → List Edge → List Part
parts s es = flat_map (parts_of s) es

-- ---- the parts in their order, from the first kept one that follows one that is not
-- how many stand before that one; `before` says whether the part before these is kept
unfoldable pub lead : Bool → List Part → ℕ
lead before [] = 0
lead before (p ∷ ps) = cond (p.kept && not before) 0 (suc (lead p.kept ps))

-- whether the last part is kept
unfoldable pub last_kept : List Part → Bool
last_kept ps = fold (λ b p. p.kept) false ps

unfoldable pub rotated : List Part → List Part
rotated ps = let k = lead (last_kept ps) ps in drop k ps ++ take k ps

unfoldable pub kept_lines : List Part → List Edge
kept_lines ps = flat_map (λ p. cond p.kept (p.line ∷ []) []) ps

-- ---- lines joined
-- the line from p to q, where they differ
unfoldable pub joint : Point → Point → List Edge
joint p q = cond (same_point p q) [] (record { a = p; b = q } ∷ [])

-- on from `last`: each line after the joint to it, and at the end the joint to `start`
unfoldable pub onward : Point → Point → List Edge → List Edge
onward start last [] = joint last start
onward start last (e ∷ es) = joint last e.a ++ (e ∷ onward start e.b es)

unfoldable pub joined : List Edge → List Edge
joined [] = []
joined (e ∷ es) = e ∷ onward e.a e.b es

-- ---- `clip`: all parts inside, the list itself; none, nothing; else the kept parts, joined
unfoldable pub clip_of : HalfPlane → List Edge → List Edge
clip_of s es =
    let ps = parts s es in
    cond (not (any (λ p. not p.kept) ps)) es
    (cond (not (any (λ p. p.kept) ps)) []
    (joined (kept_lines (rotated ps))))

-- ---- a clip that keeps every line whole and adds none (document 02, U4)
-- a line is kept whole: its only part is itself, and kept
abbrev pub KeptWhole : HalfPlane → Edge → Type 0
KeptWhole s e = parts_of s e ≡ (record { line = e; kept = true } ∷ [])

pub record KeepsAll (s : HalfPlane) (es : List Edge) : Type 0 where
  pub whole : Every (KeptWhole s) es
  pub none_added : length (clip_of s es) ≡ length es
