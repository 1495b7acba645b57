-- Tests 5 to 9 of all outlines in one pass: each outline's first test that it does not pass, and the least of these. Definitions only.
use Rattle.std.specs.Prelude.{cond, List, ℕ, min, eqb, Err, Ok}
use Rattle.std.specs.Float.Ieee.{neg, lt, le, eq}
use Rattle.lists.specs.Lists.{fold, any}
use Rattle.boundary.specs.Outline.{edges}
use Rattle.accept.specs.declared.Refusal.TheVariants.{NotFinite, OutsideField, EqualNeighbours, ZeroArea, NegativeArea}
use Rattle.accept.specs.Area.{area_of}
use Rattle.accept.specs.Refusals.{Test, all_passed, number, not_finite, outside_field, equal_neighbours, zero_area, negative_area}
use Rattle.set.specs.Set.{Outline}

-- the number of the first of the tests that an outline does not pass, 10 where it passes all
unfoldable pub first_failed : Outline → ℕ
unfolding any neg lt le eq edges area_of
first_failed o = cond (not_finite o) 5 (cond (outside_field o) 6 (cond (equal_neighbours o) 7 (cond (zero_area o) 8 (cond (negative_area o) 9 10))))

-- the least of these
unfoldable pub least_failed : List Outline → ℕ
unfolding fold first_failed
least_failed os = fold (λ n o. min n (first_failed o)) 10 os

-- what such a number says
unfoldable pub test_at : ℕ → Test
test_at n =
    cond (eqb n 5) (Err NotFinite)
    (cond (eqb n 6) (Err OutsideField)
    (cond (eqb n 7) (Err EqualNeighbours)
    (cond (eqb n 8) (Err ZeroArea)
    (cond (eqb n 9) (Err NegativeArea) all_passed))))

-- the number of what the tests say of an outline
abbrev pub rank_of : Test → ℕ
rank_of (Ok _) = 10
rank_of (Err r) = number r
