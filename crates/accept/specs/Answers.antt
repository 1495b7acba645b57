-- What an operation answers, what the call then puts into its fields, and all that a call leaves. Definitions only.
use Rattle.std.specs.Prelude.{ℕ, Ok, Err, Float}
use Rattle.number.specs.Exact.{zeroᶠ}
use Rattle.boundary.specs.declared.Bounds.{Bounds}
use Rattle.boundary.specs.declared.Distance.{Distance}
use Rattle.boundary.specs.Boxes.{cell_of}
use Rattle.accept.specs.declared.Refusal.{Refusal}
use Rattle.accept.specs.Refusals.{Answer, number}

-- ---- the fields of an answer: what the call returns, and what it puts into the fields that it is lent
pub record Fields (A : Type 0) : Type 0 where
  pub number : ℕ
  pub value : A

-- a refusal gives its number, and zeros
abbrev pub fields_of : {A : Type 0} → A → Answer A → Fields A
fields_of zeros (Ok a) = record { number = 0; value = a }
fields_of zeros (Err r) = record { number = number r; value = zeros }

-- of a count, a flag or a location
abbrev pub count_fields : Answer ℕ → Fields ℕ
count_fields a = fields_of 0 a

-- of a measure
abbrev pub measure_fields : Answer Float → Fields Float
measure_fields a = fields_of zeroᶠ a

-- of a box
abbrev pub box_fields : Answer Bounds → Fields Bounds
box_fields a = fields_of (cell_of zeroᶠ zeroᶠ zeroᶠ zeroᶠ) a

-- of a distance, with its normal or its nearest point
abbrev pub distance_of : Float → Float → Float → Distance
distance_of d x y = record { d = d; v = record { x = x; y = y } }

abbrev pub distance_fields : Answer Distance → Fields Distance
distance_fields a = fields_of (distance_of zeroᶠ zeroᶠ zeroᶠ) a

-- ---- all that a call leaves: its answer, and the lists that it was lent
pub record Outcome (A B : Type 0) : Type 0 where
  pub answer : A
  pub lent : B

-- a refusal, and the lists as they were lent
abbrev pub refused_with : {A B : Type 0} → B → Refusal → Outcome (Answer A) B
refused_with lists r = record { answer = Err r; lent = lists }

-- the answer's fields, and the same lists
abbrev pub in_fields : {A F B : Type 0} → (A → F) → Outcome A B → Outcome F B
in_fields fields o = record { answer = fields o.answer; lent = o.lent }
