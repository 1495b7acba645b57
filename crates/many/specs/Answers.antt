-- *Many points per call* (document 02, U1): the tests, and all that the call leaves. Definitions only.
use Rattle.std.specs.Prelude.{Bool, not, cond, ◌||◌, List, [], map, ℕ, ◌%◌, eqb, ltb, length, Ok, Float}
use Rattle.boundary.specs.Boxes.{point_in_field}
use Rattle.boundary.specs.Outline.{count, vertices}
use Rattle.lists.specs.Lists.{any, at_front}
use Rattle.accept.specs.declared.Refusal.TheVariants.{BadPoint, ShortBuffer, BadPointCount}
use Rattle.accept.specs.Answers.{Outcome, count_fields, refused_with, in_fields, Fields}
use Rattle.accept.specs.Refusals.{Answer, Test, ◌refusing◌when◌, given}
use Rattle.index.specs.Buffer.{IndexBuffer, buffer, short_buffer, cleared}
use Rattle.set.specs.Set.{Outline, outlines_of}
use Rattle.set.specs.Tests.{set_tested}
use Rattle.nearest.specs.declared.NearestFields.{NearestFields}
use Rattle.nearest.specs.Nearest.{nearest_in, nearest_fields}

-- ---- what the call is lent to write in
-- two lists of 256 places: for the outlines' numbers, and for the distances
pub record AnswerLists : Type 0 where
  pub outlines : List ℕ
  pub distances : List Float

-- and an index buffer to work in
pub record ManyLent : Type 0 where
  pub buffer : IndexBuffer
  pub lists : AnswerLists

abbrev pub answer_lists : List ℕ → List Float → AnswerLists
answer_lists outlines distances = record { outlines = outlines; distances = distances }

abbrev pub lent_as : List Float → List ℕ → List ℕ → List ℕ → List Float → ManyLent
lent_as corners links items outlines distances = record { buffer = buffer corners links items; lists = answer_lists outlines distances }

-- the most points of a call, and the places of each list
abbrev pub point_places : ℕ
point_places = 256

-- ---- the tests; the points' list has x then y of each point
-- 15: an odd count of point numbers, or more than 256 points
abbrev pub bad_point_count : List Float → Bool
bad_point_count ps = eqb (length ps % 2) 1 || ltb point_places (count ps)

-- 10: a point is outside the field
abbrev pub any_bad_point : List Float → Bool
any_bad_point ps = any (λ p. not (point_in_field p)) (vertices ps)

-- 13, of the two lists: one of them is too short
abbrev pub short_lists : AnswerLists → Bool
short_lists L = ltb (length L.outlines) point_places || ltb (length L.distances) point_places

-- 1 to 9 of the set, 15, 10 over all points, and 13
unfoldable pub many_tested : List Float → List ℕ → List Float → ManyLent → Test
many_tested v cs ps L =
    set_tested v cs
    refusing BadPointCount when bad_point_count ps
    refusing BadPoint when any_bad_point ps
    refusing ShortBuffer when short_buffer L.buffer
    refusing ShortBuffer when short_lists L.lists

-- ---- the answers
-- the *nearest answer* for each point, in the points' order
unfoldable pub answers_of : List Outline → List Float → List NearestFields
answers_of os ps = map (λ p. nearest_fields (Ok (nearest_in os p))) (vertices ps)

-- those that are written: over an empty set none
unfoldable pub written_of : List Outline → List Float → List NearestFields
written_of os ps = cond (eqb (length os) 0) [] (answers_of os ps)

-- 1 where the set has an outline, for no points too; over an empty set 0, 'none'
abbrev pub found_over : List Outline → ℕ
found_over os = cond (eqb (length os) 0) 0 1

-- ---- all that the call leaves
-- each answer's number and distance at the place of its point; places past the points are unchanged
unfoldable pub with_answers : List NearestFields → AnswerLists → AnswerLists
with_answers answers L = record {
  outlines = at_front (map (λ a. a.outline) answers) L.outlines;
  distances = at_front (map (λ a. a.distance) answers) L.distances;
}

-- and the index buffer cleared
abbrev pub leaving : List NearestFields → ManyLent → ManyLent
leaving answers L = record { buffer = cleared L.buffer; lists = with_answers answers L.lists }

-- where the tests are passed
unfoldable pub many_worked : List Float → List ℕ → List Float → ManyLent → Outcome (Answer ℕ) ManyLent
many_worked v cs ps L = let os = outlines_of v cs in record { answer = Ok (found_over os); lent = leaving (written_of os ps) L }

-- where they are not, the refusal, and all as it was
unfoldable pub many_outcome : List Float → List ℕ → List Float → ManyLent → Outcome (Answer ℕ) ManyLent
many_outcome v cs ps L = given (many_tested v cs ps L) (many_worked v cs ps L) (refused_with L)

-- the same, with the answer in its fields
unfoldable pub many_call : List Float → List ℕ → List Float → ManyLent → Outcome (Fields ℕ) ManyLent
many_call v cs ps L = in_fields count_fields (many_outcome v cs ps L)
