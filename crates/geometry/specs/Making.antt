-- Making an outline (`Polygon::new`): one closing vertex equal to the first is dropped, the rest is tested, and a negative outline is reversed. Definitions only.
use Rattle.std.specs.Prelude.{Bool, Ok, ◌&&◌, cond, List, [], ◌∷◌, reverse, ℕ, ◌-◌, ltb, length, take, Float}
use Rattle.boundary.specs.declared.Point.{Point}
use Rattle.boundary.specs.Outline.{count, vertex_at, same_point, vertices}
use Rattle.accept.specs.declared.Refusal.TheVariants.{ShortBuffer}
use Rattle.accept.specs.Refusals.{Answer, Test, ◌refusing◌when◌, given, negative_area, shape_tested}
use Rattle.accept.specs.Answers.{Fields, count_fields, Outcome, refused_with, in_fields}
use Rattle.lists.specs.Lists.{at_front}

-- the last vertex repeats the first
unfoldable pub closed : List Float → Bool
closed v = ltb 1 (count v) && same_point (vertex_at v 0) (vertex_at v (count v - 1))

-- the numbers without the closing vertex
unfoldable pub kept_count : List Float → ℕ
unfolding closed
kept_count v = cond (closed v) (length v - 2) (length v)

unfoldable pub kept : List Float → List Float
unfolding kept_count
kept v = take (kept_count v) v

-- the tests: 13 is a lent list of fewer places, `room`, than the input has numbers
unfoldable pub make_tested : List Float → ℕ → Test
make_tested v room = shape_tested (kept v) refusing ShortBuffer when ltb room (length v)

-- the vertices in order, or where `back` holds from the last to the first
unfoldable pub turned : Bool → List Point → List Point
turned back ps = cond back (reverse ps) ps

-- the numbers of the points, x then y
unfoldable pub coordinates_of : List Point → List Float
coordinates_of [] = []
coordinates_of (p ∷ ps) = p.x ∷ p.y ∷ coordinates_of ps

-- the made outline
unfoldable pub made_of : List Float → List Float
made_of v = coordinates_of (turned (negative_area (kept v)) (vertices (kept v)))

-- what making leaves: the number of vertices, and the made outline in the lent list
unfoldable pub make_outcome : List Float → List Float → Outcome (Answer ℕ) (List Float)
make_outcome v out =
    given (make_tested v (length out))
    (record { answer = Ok (count (kept v)); lent = at_front (made_of v) out })
    (refused_with out)

-- the same as a call leaves it
abbrev pub make_call : List Float → List Float → Outcome (Fields ℕ) (List Float)
make_call v out = in_fields count_fields (make_outcome v out)
