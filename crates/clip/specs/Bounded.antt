-- An outline and a bound of the field. Inner definitions. Definitions only.
use Rattle.std.specs.Prelude.{List, ℕ, ◌<◌, length, get_or, Float}
use Rattle.std.specs.Float.{nan}
use Rattle.boundary.specs.Boxes.{FieldValue}
use Rattle.clip.specs.declared.HalfPlane.{HalfPlane}

-- every number of a list is an `f64` of the field
abbrev pub FieldNumbers : List Float → Type 0
FieldNumbers v = (i : ℕ) → i < length v → FieldValue (get_or v i nan)

-- an outline's numbers are, and so is the bound
pub record BoundedIn (s : HalfPlane) (v : List Float) : Type 0 where
  pub numbers : FieldNumbers v
  pub bound : FieldValue s.v
