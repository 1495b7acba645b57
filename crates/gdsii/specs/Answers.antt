-- What the call leaves: its fields, and both lent lists (document 02, U3). Definitions only.
use Rattle.std.specs.Prelude.{Bool, cond, ◌||◌, List, ℕ, ◌*◌, ltb, ℤ, length, take, Ok, Err, Float}
use Rattle.lists.specs.Lists.{at_front}
use Rattle.boundary.specs.Outline.{count}
use Rattle.accept.specs.declared.Refusal.TheVariants.{ShortBuffer}
use Rattle.accept.specs.Answers.{Fields, fields_of, Outcome, in_fields}
use Rattle.accept.specs.Refusals.{Answer}
use Rattle.gdsii.specs.declared.Size.{Size}
use Rattle.gdsii.specs.Reading.{set_of, counts_of, Reading, turned_down, read_as, reading}

-- how many outlines and vertices a set has
abbrev pub set_size : List (List ℤ) → Size
set_size zss = record { outlines = length zss; vertices = count (set_of zss) }

abbrev pub measured : Reading → Answer Size
measured (turned_down r) = Err r
measured (read_as zss) = Ok (set_size zss)

-- the two lists that a call is lent
pub record SetLent : Type 0 where
  pub vertices : List Float
  pub counts : List ℕ

abbrev pub set_lent : List Float → List ℕ → SetLent
set_lent v cs = record { vertices = v; counts = cs }

-- 13: one of them is shorter than the set found
abbrev pub short_set : List (List ℤ) → SetLent → Bool
short_set zss L = ltb (length L.vertices) (length (set_of zss)) || ltb (length L.counts) (length zss)

-- the set at their front
abbrev pub written : List (List ℤ) → SetLent → SetLent
written zss L = set_lent (at_front (set_of zss) L.vertices) (at_front (counts_of zss) L.counts)

-- a stream's refusal, then 13, then the set that it holds; unless all is accepted nothing is written
unfoldable pub read_with : Reading → SetLent → Outcome (Answer Size) SetLent
read_with (turned_down r) L = record { answer = Err r; lent = L }
read_with (read_as zss) L =
    cond (short_set zss L)
    (record { answer = Err ShortBuffer; lent = L })
    (record { answer = Ok (set_size zss); lent = written zss L })

abbrev pub read_outcome : List ℕ → SetLent → Outcome (Answer Size) SetLent
read_outcome s L = read_with (reading s) L

-- the same as a call leaves it: a refusal gives its number and zeros
abbrev pub no_set : Size
no_set = record { outlines = 0; vertices = 0 }

abbrev pub read_fields : Answer Size → Fields Size
read_fields a = fields_of no_set a

abbrev pub read_call : List ℕ → SetLent → Outcome (Fields Size) SetLent
read_call s L = in_fields read_fields (read_outcome s L)

-- the set in the lists that a call leaves: the first 2 x vertex_count numbers, the first outline_count counts
abbrev pub vertices_left : List ℕ → SetLent → List Float
vertices_left s L = take (2 * (read_call s L).answer.value.vertices) (read_call s L).lent.vertices

abbrev pub counts_left : List ℕ → SetLent → List ℕ
counts_left s L = take (read_call s L).answer.value.outlines (read_call s L).lent.counts
