-- Document 01's starred examples, as one list: what each call leaves, by the definition that its contract cites, and what the document says that it leaves. Definitions only.
use Rattle.boundary.specs.declared.Distance.{Distance}
use Rattle.accept.specs.Refusals.{Answer}
use Rattle.std.specs.Prelude.{◌≡◌, List, [], ◌∷◌, map, ℕ, pos, replicate, Float}
use Rattle.std.specs.Float.{binary64}
use Rattle.std.specs.Float.Ieee.{of_int, neg, div}
use Rattle.number.specs.Exact.{zeroᶠ}
use Rattle.boundary.specs.declared.Point.{Point}
use Rattle.boundary.specs.declared.Bounds.{Bounds}
use Rattle.accept.specs.Answers.{count_fields, measure_fields, distance_of, distance_fields}
use Rattle.lists.specs.Lists.{zeros}
use Rattle.geometry.specs.Answers.{area_answer, perimeter_answer, contains_answer, locate_answer, distance_answer}
use Rattle.geometry.specs.Making.{make_call}
use Rattle.fill.specs.Answers.{fill_call}
use Rattle.ellipse.specs.Ellipse.{ellipse_answer}
use Rattle.index.specs.Buffer.{IndexBuffer, buffer}
use Rattle.meeting.specs.Answers.{meeting_call}
use Rattle.nearest.specs.Answers.{nearest_call}

-- ---- what the calls are lent
-- whole numbers of µm
abbrev pub um : ℕ → Float
unfolding of_int
um n = of_int binary64 (pos n)

abbrev pub microns : List ℕ → List Float
microns ns = map um ns

abbrev pub micro_point : ℕ → ℕ → Point
micro_point x y = record { x = um x; y = um y }

-- min x, min y, max x, max y
abbrev pub cell : ℕ → ℕ → ℕ → ℕ → Bounds
cell x y z t = record { min = micro_point x y; max = micro_point z t }

-- the double nearest to n / 10
abbrev pub tenths : ℕ → Float
unfolding div
tenths n = div binary64 (um n) (um 10)

-- the square of the examples
abbrev pub S : List Float
S = microns (0 ∷ 0 ∷ 4 ∷ 0 ∷ 4 ∷ 4 ∷ 0 ∷ 4 ∷ [])

-- S listed the other way round
abbrev pub S-back : List Float
S-back = microns (0 ∷ 0 ∷ 0 ∷ 4 ∷ 4 ∷ 4 ∷ 4 ∷ 0 ∷ [])

-- S moved 10 right, and the set of both
abbrev pub S-right : List Float
S-right = microns (10 ∷ 0 ∷ 14 ∷ 0 ∷ 14 ∷ 4 ∷ 10 ∷ 4 ∷ [])

abbrev pub both : List Float
both = microns (0 ∷ 0 ∷ 4 ∷ 0 ∷ 4 ∷ 4 ∷ 0 ∷ 4 ∷ 10 ∷ 0 ∷ 14 ∷ 0 ∷ 14 ∷ 4 ∷ 10 ∷ 4 ∷ [])

abbrev pub fours : List ℕ
fours = 4 ∷ 4 ∷ []

-- the boxes of the examples
abbrev pub boxes : List Float
boxes = microns (0 ∷ 0 ∷ 1 ∷ 1 ∷ 10 ∷ 10 ∷ 11 ∷ 11 ∷ [])

-- the nearest point of the ellipse a = 2, b = 1, centre (0, 0)
abbrev pub on_ellipse : Point → Answer Distance
on_ellipse p = ellipse_answer (micro_point 0 0) (um 2) (um 1) p

-- lent lists hold nines before a call
abbrev pub nines : ℕ → List Float
nines n = replicate n (um 9)

-- an index buffer of the stated size, before a call works in it and after
abbrev pub room : IndexBuffer
room = buffer (nines 2044) (replicate 1022 9) (replicate 1024 9)

abbrev pub room_after : IndexBuffer
room_after = buffer (zeros zeroᶠ 2044) (zeros 0 1022) (zeros 0 1024)

-- a list of 1,024 places
abbrev pub list_places : List ℕ
list_places = replicate 1024 9

-- ---- the list
-- what a call leaves, and what the document says that it leaves
pub record Example : Type 1 where
  pub Left : Type 0
  pub call : Left
  pub said : Left

infix 4 ◌gives◌
abbrev pub ◌gives◌ : {A : Type 0} → A → A → Example
◌gives◌ {A} c s = record { Left = A; call = c; said = s }

-- each leaves what is said
unfoldable pub AllHold : List Example → Type 0
AllHold [] = Unit {0}
AllHold (e ∷ es) = (e.call ≡ e.said) × AllHold es

-- In document 01's order. The number is the refusal's, or 0. The normal at (1, 2) has y = -0: inside, both coordinates are negated
unfoldable pub starred : List Example
starred =
    (measure_fields (area_answer S) gives record { number = 0; value = um 16 })
    ∷ (measure_fields (perimeter_answer S) gives record { number = 0; value = um 16 })
    ∷ (make_call S-back (nines 8) gives record { answer = record { number = 0; value = 4 }; lent = microns (4 ∷ 0 ∷ 4 ∷ 4 ∷ 0 ∷ 4 ∷ 0 ∷ 0 ∷ []) })
    ∷ (count_fields (locate_answer S (micro_point 4 2)) gives record { number = 0; value = 1 })
    ∷ (count_fields (contains_answer S (micro_point 4 2)) gives record { number = 0; value = 0 })
    ∷ (count_fields (locate_answer S (micro_point 0 2)) gives record { number = 0; value = 1 })
    ∷ (count_fields (contains_answer S (micro_point 0 2)) gives record { number = 0; value = 1 })
    ∷ (count_fields (contains_answer S (micro_point 2 0)) gives record { number = 0; value = 1 })
    ∷ (count_fields (contains_answer S (micro_point 2 4)) gives record { number = 0; value = 0 })
    ∷ (distance_fields (distance_answer S (micro_point 6 2)) gives record { number = 0; value = distance_of (um 2) (um 1) (um 0) })
    ∷ (distance_fields (distance_answer S (micro_point 1 2)) gives record { number = 0; value = distance_of (neg (um 1)) (neg (um 1)) (neg (um 0)) })
    ∷ (distance_fields (distance_answer S (micro_point 7 8)) gives record { number = 0; value = distance_of (um 5) (tenths 6) (tenths 8) })
    ∷ (fill_call S (cell 1 1 3 6) (nines 64) gives record { answer = record { number = 0; value = um 6 }; lent = zeros zeroᶠ 64 })
    ∷ (fill_call S (cell 5 5 6 6) (nines 64) gives record { answer = record { number = 0; value = um 0 }; lent = zeros zeroᶠ 64 })
    ∷ (measure_fields (area_answer (microns (0 ∷ 0 ∷ 1 ∷ 0 ∷ 2 ∷ 0 ∷ []))) gives record { number = 8; value = um 0 })
    ∷ (measure_fields (area_answer (microns (0 ∷ 0 ∷ 2 ∷ 2 ∷ 2 ∷ 0 ∷ 0 ∷ 2 ∷ []))) gives record { number = 8; value = um 0 })
    ∷ (nearest_call both fours (micro_point 7 2) room gives record { answer = record { number = 0; found = 1; outline = 0; distance = um 3 }; lent = room_after })
    ∷ (distance_fields (on_ellipse (record { x = um 0; y = neg (um 0) })) gives record { number = 0; value = distance_of (um 1) (um 0) (neg (um 1)) })
    ∷ (distance_fields (on_ellipse (micro_point 3 0)) gives record { number = 0; value = distance_of (um 1) (um 2) (um 0) })
    ∷ (meeting_call boxes (cell 5 5 6 6) room list_places
    gives record { answer = record { number = 0; value = 2 }; lent = record { buffer = room_after; list = 0 ∷ 1 ∷ replicate 1022 9 } })
    ∷ (meeting_call boxes (cell 20 20 21 21) room list_places
    gives record { answer = record { number = 0; value = 0 }; lent = record { buffer = room_after; list = list_places } })
    ∷ []
