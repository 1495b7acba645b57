-- A test after those before it, what stands given a test, and the tests of an outline in document 01's order, each over the whole outline before the next. Definitions only.
use Rattle.std.specs.Prelude.{Bool, not, cond, List, ℕ, ◌%◌, Result, Ok, Err, eqb, ltb, length, Float}
use Rattle.std.specs.Float.Ieee.{neg, lt, le, eq}
use Rattle.std.specs.Float.Ieee.Scale.{finite}
use Rattle.number.specs.Exact.{zeroᶠ}
use Rattle.boundary.specs.Boxes.{is_in_field}
use Rattle.lists.specs.Lists.{any}
use Rattle.boundary.specs.Outline.{count, same_point, edges}
use Rattle.accept.specs.declared.Refusal.{Refusal}
use Rattle.accept.specs.declared.Refusal.TheVariants.{OddCount, BadCounts, TooFew, TooMany, NotFinite, OutsideField, EqualNeighbours, ZeroArea, NegativeArea, BadPoint, BadBox, BadEllipse, ShortBuffer, LongList, BadPointCount, BadRecord, OtherUnit, BeyondReach}
use Rattle.accept.specs.Area.{area_of}

-- the paper's number
abbrev pub number : Refusal → ℕ
number OddCount = 1
number BadCounts = 2
number TooFew = 3
number TooMany = 4
number NotFinite = 5
number OutsideField = 6
number EqualNeighbours = 7
number ZeroArea = 8
number NegativeArea = 9
number BadPoint = 10
number BadBox = 11
number BadEllipse = 12
number ShortBuffer = 13
number LongList = 14
number BadPointCount = 15
number BadRecord = 16
number OtherUnit = 17
number BeyondReach = 18

-- ---- an answer, or why the call is turned away
abbrev pub Answer : Type 0 → Type 0
Answer A = Result A Refusal

-- what the tests say: nothing more, where they are passed
abbrev pub Test : Type 0
Test = Answer (Unit {0})

abbrev pub all_passed : Test
all_passed = Ok tt

-- ---- a test after those before it
-- what t says; where it says that those before are passed, the test that refuses with r when `fails` holds
infixl 20 ◌refusing◌when◌
unfoldable pub ◌refusing◌when◌ : Test → Refusal → Bool → Test
(Ok _) refusing r when fails = cond fails (Err r) all_passed
(Err q) refusing r when fails = Err q

-- ---- given a test
-- a where the tests are passed, and what `refused` gives of the refusal where they are not
unfoldable pub given : {A : Type 0} → Test → A → (Refusal → A) → A
given (Ok _) a refused = a
given (Err r) a refused = refused r

-- ---- what an outline does not pass
-- 5: a number is not finite
abbrev pub not_finite : List Float → Bool
not_finite v = any (λ x. not (finite x)) v

-- 6: a number is outside the field
abbrev pub outside_field : List Float → Bool
outside_field v = any (λ x. not (is_in_field x)) v

-- 7: two neighbouring vertices, last and first included, are equal
abbrev pub equal_neighbours : List Float → Bool
equal_neighbours v = any (λ e. same_point e.a e.b) (edges v)

-- 8: the area works out to zero
abbrev pub zero_area : List Float → Bool
zero_area v = eq (area_of (edges v)) zeroᶠ

-- 9: it is negative
abbrev pub negative_area : List Float → Bool
negative_area v = lt (area_of (edges v)) zeroᶠ

-- ---- the tests of an outline
-- 3 and 4, of n vertices
unfoldable pub size_tested : ℕ → Test
unfolding ◌refusing◌when◌
size_tested n = all_passed refusing TooFew when ltb n 3 refusing TooMany when ltb 4096 n

-- 1, 3 and 4
unfoldable pub count_tested : List Float → Test
unfolding ◌refusing◌when◌
count_tested v =
    all_passed refusing OddCount when eqb (length v % 2) 1
    refusing TooFew when ltb (count v) 3
    refusing TooMany when ltb 4096 (count v)

-- 5 to 8
unfoldable pub values_tested : List Float → Test
unfolding ◌refusing◌when◌ any neg le eq edges area_of
values_tested v =
    all_passed refusing NotFinite when not_finite v
    refusing OutsideField when outside_field v
    refusing EqualNeighbours when equal_neighbours v
    refusing ZeroArea when zero_area v

-- 1 and 3 to 8
unfoldable pub shape_tested : List Float → Test
unfolding given count_tested values_tested
shape_tested v = given (count_tested v) (values_tested v) Err

-- and 9: those of a query's outline
unfoldable pub outline_tested : List Float → Test
unfolding ◌refusing◌when◌ shape_tested lt edges area_of
outline_tested v = shape_tested v refusing NegativeArea when negative_area v
