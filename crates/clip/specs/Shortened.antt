-- Two neighbouring lines drawn as one, where clips leave nothing of either. Inner definitions. Definitions only.
use Rattle.std.specs.Prelude.{◌≡◌, true, false, List, [], ◌∷◌, ◌++◌, ℕ, suc, ◌+◌, ◌-◌, ◌≤◌, ◌<◌, Float}
use Rattle.boundary.specs.declared.Edge.{Edge}
use Rattle.boundary.specs.declared.Point.{Point}
use Rattle.boundary.specs.Outline.{count, vertex_at, edge_at, after, same_point}
use Rattle.boundary.specs.Boxes.{FieldValue, FieldPoint}
use Rattle.lists.specs.Lists.{run}
use Rattle.clip.specs.declared.HalfPlane.{HalfPlane}
use Rattle.clip.specs.Clip.{in_half_plane, parts_of, KeptWhole}
use Rattle.clip.specs.Bounded.{FieldNumbers}

-- the line from the start of the first to the end of the second
abbrev pub across_both : Edge → Edge → Edge
across_both e f = record { a = e.a; b = f.b }

-- a line of which a clip keeps nothing: its only part is itself, and not kept
abbrev pub DroppedWhole : HalfPlane → Edge → Type 0
DroppedWhole s e = parts_of s e ≡ (record { line = e; kept = false } ∷ [])

-- a clip drops both, and the line drawn in their place
pub record BothDropped (s : HalfPlane) (e f : Edge) : Type 0 where
  pub first : DroppedWhole s e
  pub second : DroppedWhole s f
  pub across : DroppedWhole s (across_both e f)

-- a clip keeps them whole, and the second starts where the first ends
pub record BothKept (s : HalfPlane) (e f : Edge) : Type 0 where
  pub first : KeptWhole s e
  pub second : KeptWhole s f
  pub across : KeptWhole s (across_both e f)
  pub meet : same_point e.b f.a ≡ true

-- the second list is the first with neighbours drawn as one: the clip to `low` drops them, or it keeps them and the clip to
-- `high` drops them, which happens k times
pub data Shortened (low high : HalfPlane) : ℕ → List Edge → List Edge → Type 0 where
  as_it_is : {es : List Edge} → Shortened low high 0 es es
  outside_low : {k : ℕ} {es : List Edge} (xs ys : List Edge) {e f : Edge} → BothDropped low e f → Shortened low high k es (xs ++ (e ∷ f ∷ ys)) → Shortened low high k es (xs ++ (across_both e f ∷ ys))
  outside_high : {k : ℕ} {es : List Edge} (xs ys : List Edge) {e f : Edge} → BothKept low e f → BothDropped high e f → Shortened low high k es (xs ++ (e ∷ f ∷ ys)) → Shortened low high (suc k) es (xs ++ (across_both e f ∷ ys))

-- ---- a strip between two bounds
-- an outline and the bounds are of the field, and what is outside the high one is inside the low one
pub record StripOf (low high : HalfPlane) (v : List Float) : Type 0 where
  pub numbers : FieldNumbers v
  pub low_bound : FieldValue low.v
  pub high_bound : FieldValue high.v
  pub one_side : (p : Point) → FieldPoint p → in_half_plane high p ≡ false → in_half_plane low p ≡ true

-- the line from vertex i to vertex j
abbrev pub chord_of : List Float → ℕ → ℕ → Edge
chord_of v i j = record { a = vertex_at v i; b = vertex_at v j }

-- the edges from vertex i up to vertex `to`, the first after the last, are drawn as one line, where `beyond` vertices between
-- them are outside the high bound
pub record Drawn (low high : HalfPlane) (v : List Float) (i to beyond : ℕ) : Type 0 where
  pub forward : i + beyond < to
  pub fits : to ≤ count v
  pub drawn : (k : ℕ) (es xs : List Edge) → Shortened low high k es (xs ++ run (edge_at v) i (count v - i))
      → Shortened low high (beyond + k) es (xs ++ (chord_of v i (after (count v) (to - 1)) ∷ run (edge_at v) to (count v - to)))
