-- What the tests of an outline hand over: with what they say, the area that they have worked out. Definitions only.
use Rattle.std.specs.Prelude.{Bool, Ok, Err, Float}
use Rattle.std.specs.Float.Ieee.{eq}
use Rattle.number.specs.Exact.{zeroᶠ}
use Rattle.accept.specs.declared.Refusal.TheVariants.{EqualNeighbours, ZeroArea}
use Rattle.accept.specs.Refusals.{Answer, Test, all_passed, ◌refusing◌when◌, given}

-- what tests 7 and 8 hand over of an outline of area a that has, or has not, equal neighbours
unfoldable pub edges_verdict : Bool → Float → Answer Float
unfolding ◌refusing◌when◌ given
edges_verdict same a =
    given (all_passed refusing EqualNeighbours when same refusing ZeroArea when eq a zeroᶠ) (Ok a) Err

-- what they say, without the area
abbrev pub test_of : Answer Float → Test
test_of (Ok a) = all_passed
test_of (Err r) = Err r
