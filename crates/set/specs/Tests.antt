-- The tests that a set and a query of it go through, in document 01's order, each over all outlines before the next begins. Definitions only.
use Rattle.std.specs.Prelude.{Bool, not, ◌||◌, List, ℕ, ◌%◌, eqb, ltb, length, Float}
use Rattle.boundary.specs.declared.Point.{Point}
use Rattle.boundary.specs.Boxes.{point_in_field}
use Rattle.lists.specs.Lists.{any}
use Rattle.boundary.specs.Outline.{count}
use Rattle.accept.specs.declared.Refusal.TheVariants.{OddCount, BadCounts, TooFew, TooMany, NotFinite, OutsideField, EqualNeighbours, ZeroArea, NegativeArea, BadPoint, ShortBuffer}
use Rattle.accept.specs.Refusals.{Test, all_passed, ◌refusing◌when◌, not_finite, outside_field, equal_neighbours, zero_area, negative_area}
use Rattle.index.specs.Buffer.{IndexBuffer, short_buffer}
use Rattle.set.specs.Set.{Outline, start_of, outlines_of}

-- ---- what a set does not pass: tests 2 to 4
-- the counts add up to the list's
abbrev pub adds_up : List Float → List ℕ → Bool
adds_up v cs = eqb (start_of cs (length cs)) (count v)

-- an outline has fewer than three vertices
abbrev pub any_few : List ℕ → Bool
any_few cs = any (λ n. ltb n 3) cs

-- an outline has more than 4,096
abbrev pub any_many : List ℕ → Bool
any_many cs = any (λ n. ltb 4096 n) cs

-- there are more than 1,024 outlines, or more than 65,536 vertices together
abbrev pub over_size : List Float → List ℕ → Bool
over_size v cs = ltb 1024 (length cs) || ltb 65536 (count v)

-- ---- the tests
-- 1 to 4, of the lists that a call is lent
unfoldable pub lists_tested : List Float → List ℕ → Test
lists_tested v cs =
    all_passed
    refusing OddCount when eqb (length v % 2) 1
    refusing BadCounts when not (adds_up v cs)
    refusing TooFew when any_few cs
    refusing TooMany when (any_many cs || over_size v cs)

-- 5 to 9, of the outlines, after t of those before them
unfoldable pub outlines_tested : List Outline → Test → Test
outlines_tested os t =
    t
    refusing NotFinite when any not_finite os
    refusing OutsideField when any outside_field os
    refusing EqualNeighbours when any equal_neighbours os
    refusing ZeroArea when any zero_area os
    refusing NegativeArea when any negative_area os

-- 1 to 9: a set is *accepted* where it passes them
unfoldable pub set_tested : List Float → List ℕ → Test
set_tested v cs = outlines_tested (outlines_of v cs) (lists_tested v cs)

-- those of a query of the set at p, with the index buffer B to work in
unfoldable pub set_query_tested : List Float → List ℕ → Point → IndexBuffer → Test
set_query_tested v cs p B =
    set_tested v cs
    refusing BadPoint when not (point_in_field p)
    refusing ShortBuffer when short_buffer B
