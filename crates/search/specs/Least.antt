-- The least of a set's magnitudes, the lowest number among equals. Definitions only.
use Rattle.std.specs.Prelude.{cond, List, ℕ, ◌-◌, length, Float}
use Rattle.std.specs.Float.Ieee.{lt}
use Rattle.number.specs.Signs.{abs_of}
use Rattle.boundary.specs.declared.Point.{Point}
use Rattle.lists.specs.Lists.{run, fold}
use Rattle.boundary.specs.Outline.{edges}
use Rattle.distance.specs.Nearest.{nearest_of, signed_of}
use Rattle.geometry.specs.Polygon.{contains_of}
use Rattle.set.specs.Set.{Outline, outline_in}
use Rattle.search.specs.declared.Best.{Best}

-- the magnitude of the outline's distance, as computed
unfoldable pub magnitude_of : Outline → Point → Float
unfolding signed_of nearest_of edges contains_of
magnitude_of o p = abs_of (signed_of (nearest_of (edges o) p) p (contains_of (edges o) p)).d

-- that of outline k of a set
abbrev pub magnitude_at : List Outline → Point → ℕ → Float
magnitude_at os p k = magnitude_of (outline_in os k) p

-- ---- of magnitudes D by number, the least of the first n, the lowest number among equals
-- the best so far gives way only where the next one is less
abbrev pub closer : (ℕ → Float) → Best → ℕ → Best
closer D best k = cond (lt (D k) best.distance) (record { outline = k; distance = D k }) best

unfoldable pub least_of : (ℕ → Float) → ℕ → Best
unfolding fold run lt
least_of D n = fold (closer D) (record { outline = 0; distance = D 0 }) (run (λ k. k) 1 (n - 1))

-- that of all outlines of a set
abbrev pub least_in : List Outline → Point → Best
least_in os p = least_of (magnitude_at os p) (length os)
