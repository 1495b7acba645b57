-- What the two passes over a stream keep to. Definitions only.
use Rattle.std.specs.Prelude.{◌≡◌, Bool, false, cond, ◌||◌, List, [], ℕ, ◌+◌, ◌*◌, ◌≤◌, ◌<◌, eqb, ltb, ℤ, length, drop, get_or, set, Ok, Err}
use Rattle.std.proofs.lemmas.List.Edits.{sets}
use Rattle.accept.specs.declared.Refusal.TheVariants.{TooMany}
use Rattle.accept.specs.Refusals.{Answer, all_passed, given, negative_area}
use Rattle.geometry.specs.Making.{kept, made_of}
use Rattle.stream.specs.declared.Awaited.{Awaited}
use Rattle.stream.specs.Bytes.{steps_in}
use Rattle.stream.specs.Format.{XY}
use Rattle.stream.specs.Records.{record_size, record_type, record_data}
use Rattle.xy.specs.Outlines.{numbers_of, made_count, xy_tested, steps_from}
use Rattle.gdsii.specs.declared.Size.{Size}
use Rattle.gdsii.specs.Reading.{set_of, record_tested, Reading, read_as, reading}
use Rattle.gdsii.specs.Answers.{SetLent, set_lent, written}

-- ---- by sizes alone
-- the size of a set with one outline more
abbrev pub size_with : Size → List ℤ → Size
size_with so zs = record { outlines = so.outlines + 1; vertices = so.vertices + made_count zs }

-- with one of n vertices; 4 where it is over a set's size
unfoldable pub grown_by : Size → ℕ → Answer Size
grown_by so n =
    cond (ltb 1024 (so.outlines + 1) || ltb 65536 (so.vertices + n))
    (Err TooMany)
    (Ok (record { outlines = so.outlines + 1; vertices = so.vertices + n }))

-- after the outline zs is tested
abbrev pub outline_read : Size → List ℤ → Answer Size
outline_read so zs = given (xy_tested zs) (grown_by so (made_count zs)) Err

-- after the record that s opens with
unfoldable pub record_read : Awaited → Size → List ℕ → Answer Size
record_read then so s = given (record_tested then s) (cond (eqb (record_type s) XY) (outline_read so (steps_in (record_data s))) (Ok so)) Err

-- ---- the signs: whether an outline is to be reversed
abbrev pub sign_of : List ℤ → Bool
sign_of zs = negative_area (kept (numbers_of zs))

-- with that of the record that s opens with
unfoldable pub with_record_sign : Size → List ℕ → List Bool → List Bool
with_record_sign so s S = cond (eqb (record_type s) XY) (set S so.outlines (sign_of (steps_in (record_data s)))) S

-- those of the outlines zss
pub record Signs (zss : List (List ℤ)) (S : List Bool) : Type 0 where
  pub each : (k : ℕ) → k < length zss → get_or S k false ≡ sign_of (get_or zss k [])

abbrev pub SignsOf : Reading → List Bool → Type 0
SignsOf r S = (zss : List (List ℤ)) → r ≡ read_as zss → Signs zss S

-- ---- where the passes are
-- a place in the stream, with the type and the length of the record there
pub record AtRecord (s : List ℕ) (at t n : ℕ) : Type 0 where
  pub within : at + 4 ≤ length s
  pub type : t ≡ record_type (drop at s)
  pub size : n ≡ record_size (drop at s)
  pub short : n < 65536

-- ---- what is written
-- the outline zs after a set of so many outlines and vertices
abbrev pub written_at : Size → List ℤ → SetLent → SetLent
written_at so zs L = set_lent (sets L.vertices (2 * so.vertices) (made_of (numbers_of zs))) (set L.counts so.outlines (made_count zs))

-- n vertices from a place on pass the tests, their sign is known, and both lists have room for their outline there
pub record Joins (s : List ℕ) (from n : ℕ) (so : Size) (S : List Bool) (L : SetLent) : Type 0 where
  pub within : from + 8 * n ≤ length s
  pub passed : xy_tested (steps_from s from n) ≡ all_passed
  pub sign : get_or S so.outlines false ≡ sign_of (steps_from s from n)
  pub few : so.outlines < 1024
  pub small : so.vertices ≤ 65536
  pub wide : 2 * so.vertices + length (made_of (numbers_of (steps_from s from n))) ≤ length L.vertices

-- the stream is accepted, with n outlines, their signs are known, and both lists have room for the set
pub record RoomForSet (s : List ℕ) (n : ℕ) (S : List Bool) (L : SetLent) : Type 0 where
  pub outlines : List (List ℤ)
  pub many : n ≡ length outlines
  pub read : reading s ≡ read_as outlines
  pub signs : Signs outlines S
  pub wide : length (set_of outlines) ≤ length L.vertices
  pub long : length outlines ≤ length L.counts

-- the lists of an accepted stream once they are written
abbrev pub Wrote : List ℕ → SetLent → SetLent → Type 0
Wrote s before after = (zss : List (List ℤ)) → reading s ≡ read_as zss → after ≡ written zss before
