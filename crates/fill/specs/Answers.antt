-- A call for the fill of a cell: its tests in document 01's order, and what it leaves. Definitions only.
use Rattle.std.specs.Prelude.{not, cond, List, ℕ, ◌*◌, ltb, length, Ok, Err, Float}
use Rattle.number.specs.Exact.{zeroᶠ}
use Rattle.boundary.specs.Boxes.{box_fits}
use Rattle.boundary.specs.declared.Edge.{Edge}
use Rattle.boundary.specs.Outline.{count, edges}
use Rattle.boundary.specs.declared.Bounds.{Bounds}
use Rattle.accept.specs.declared.Refusal.TheVariants.{BadBox, ShortBuffer, LongList}
use Rattle.accept.specs.Refusals.{Answer, Test, ◌refusing◌when◌, given, outline_tested}
use Rattle.accept.specs.Answers.{measure_fields, Outcome, refused_with, in_fields, Fields}
use Rattle.lists.specs.Lists.{at_front, zeros}
use Rattle.clip.specs.Lent.{half_of}
use Rattle.fill.specs.Fill.{fill_of, long_of}

-- the tests of an outline, a cell and a buffer of `room` numbers: a half has at least one piece per vertex
unfoldable pub fill_tested : List Float → Bounds → ℕ → Test
fill_tested v c room =
    outline_tested v refusing BadBox when not (box_fits c)
    refusing ShortBuffer when ltb (half_of room) (count v)

-- what is answered where they pass; refusal 14 where a clipped list is longer than a half
unfoldable pub filled : ℕ → List Edge → Bounds → Answer Float
filled half es c = cond (long_of half es c) (Err LongList) (Ok (fill_of es c))

-- what the work leaves: the answer, and zeros in both halves of the buffer
abbrev pub filled_outcome : List Float → Bounds → List Float → Outcome (Answer Float) (List Float)
filled_outcome v c w = record {
  answer = filled (half_of (length w)) (edges v) c;
  lent = at_front (zeros zeroᶠ (8 * half_of (length w))) w;
}

-- what filling leaves: that, or the buffer as it was where a test turns the call away
unfoldable pub fill_outcome : List Float → Bounds → List Float → Outcome (Answer Float) (List Float)
fill_outcome v c w = given (fill_tested v c (length w)) (filled_outcome v c w) (refused_with w)

-- the same as a call leaves it
abbrev pub fill_call : List Float → Bounds → List Float → Outcome (Fields Float) (List Float)
fill_call v c w = in_fields measure_fields (fill_outcome v c w)
