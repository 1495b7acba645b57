-- The *grid* (document 01): every whole number of *steps*, 1/1,024 µm, within ±1,024 µm. Definitions only.
use Rattle.std.specs.Prelude.{List, ◌^◌, ℤ, Float}
use Rattle.lists.specs.Lists.{Each}
use Rattle.number.specs.Exact.{Sized}

-- x is exactly z steps, z / 2 ^ 10, and z is at most 2 ^ 20 either way
abbrev pub OnGrid : Float → ℤ → Type 0
OnGrid x z = Sized 10 (2 ^ 20) x z

-- every number of an outline is on the grid
pub record OutlineOn (v : List Float) : Type 0 where
  pub steps : List ℤ
  pub on : Each OnGrid v steps
