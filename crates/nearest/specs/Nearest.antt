-- The *nearest answer* (document 01): the outline of a set with the least magnitude of its distance, the lowest number among equals. Definitions only.
use Rattle.std.specs.Prelude.{◌≡◌, false, cond, List, ℕ, ◌<◌, eqb, length, Option, None, Some, Ok, Err}
use Rattle.std.specs.Float.Ieee.{lt, eq}
use Rattle.number.specs.Exact.{zeroᶠ}
use Rattle.boundary.specs.declared.Point.{Point}
use Rattle.accept.specs.Refusals.{Answer, number}
use Rattle.set.specs.Set.{Outline}
use Rattle.search.specs.declared.Best.{Best}
use Rattle.search.specs.Least.{magnitude_of, magnitude_at, least_of, least_in}
use Rattle.nearest.specs.declared.NearestFields.{NearestFields}

-- ---- the *nearest answer*; 'none' over an empty set only
unfoldable pub nearest_in : List Outline → Point → Option Best
unfolding magnitude_of least_of
nearest_in os p = cond (eqb (length os) 0) None (Some (least_in os p))

-- what that means: b is the answer over a set that has an outline
pub record NearestIs (os : List Outline) (p : Point) (b : Best) : Type 0 where
  -- it is an outline's number, and that outline's magnitude
  pub within : b.outline < length os
  pub is : b.distance ≡ magnitude_at os p b.outline
  -- no outline's magnitude is below it, and none with a lower number has an equal one
  pub least : (k : ℕ) → k < length os → lt (magnitude_at os p k) b.distance ≡ false
  pub first : (k : ℕ) → k < b.outline → eq (magnitude_at os p k) b.distance ≡ false

-- ---- what the call returns, and puts into its answer fields
-- where it finds none, zeros; n is a refusal's number, or 0
abbrev pub none_found : ℕ → NearestFields
none_found n = record { number = n; found = 0; outline = 0; distance = zeroᶠ }

abbrev pub nearest_fields : Answer (Option Best) → NearestFields
nearest_fields (Err r) = none_found (number r)
nearest_fields (Ok None) = none_found 0
nearest_fields (Ok (Some b)) = record { number = 0; found = 1; outline = b.outline; distance = b.distance }
