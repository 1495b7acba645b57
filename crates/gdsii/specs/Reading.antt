-- What every stream is answered, record after record in stream order: the outlines that it holds, or a refusal (document 02, U3). Definitions only.
use Rattle.std.specs.Prelude.{◌&&◌, cond, ℕ, zero, suc, eqb, ℤ, length, Err, Float}
use mathlib.Core.List.{List, [], ◌∷◌, ◌++◌, map, flat_map}
use Rattle.accept.specs.declared.Refusal.{Refusal}
use Rattle.accept.specs.declared.Refusal.TheVariants.{TooMany, BadRecord, OtherUnit}
use Rattle.accept.specs.Refusals.{Test, all_passed, ◌refusing◌when◌, given}
use Rattle.geometry.specs.Making.{kept, made_of}
use Rattle.set.specs.Tests.{over_size}
use Rattle.stream.specs.declared.Awaited.{Awaited}
use Rattle.stream.specs.declared.Awaited.TheVariants.{Header}
use Rattle.stream.specs.Bytes.{steps_in}
use Rattle.stream.specs.Format.{UNITS, XY}
use Rattle.stream.specs.Records.{record_type, record_data, after_record, asked_after, at_end, astray, cut_short, misfit, other_unit}
use Rattle.xy.specs.Outlines.{numbers_of, made_count, xy_tested}

-- ---- the set that outlines in steps are, each passed through making
-- their vertices one after the other, and each one's vertex count
unfoldable pub set_of : List (List ℤ) → List Float
unfolding flat_map made_of
set_of zss = flat_map (λ zs. made_of (numbers_of zs)) zss

unfoldable pub counts_of : List (List ℤ) → List ℕ
unfolding kept
counts_of zss = map made_count zss

-- ---- the tests of the record that s opens with
-- 16 and 17, where `then` is asked for after its type
unfoldable pub record_tested : Awaited → List ℕ → Test
record_tested then s =
    all_passed
    refusing BadRecord when cut_short s
    refusing BadRecord when astray then
    refusing BadRecord when misfit (record_type s) (length (record_data s))
    refusing OtherUnit when (eqb (record_type s) UNITS && other_unit (record_data s))

-- of an outline zs after the outlines zss: 18 and its own, then 4 for the set with it
unfoldable pub joining_tested : List (List ℤ) → List ℤ → Test
joining_tested zss zs = xy_tested zs refusing TooMany when over_size (set_of (zss ++ zs ∷ [])) (counts_of (zss ++ zs ∷ []))

-- all of them, after the outlines zss
unfoldable pub all_tested : Awaited → List (List ℤ) → List ℕ → Test
all_tested then zss s = given (record_tested then s) (cond (eqb (record_type s) XY) (joining_tested zss (steps_in (record_data s))) all_passed) Err

-- ---- one record after another
-- the outlines with that of the record: an XY has one
unfoldable pub with_record : List (List ℤ) → List ℕ → List (List ℤ)
with_record zss s = cond (eqb (record_type s) XY) (zss ++ steps_in (record_data s) ∷ []) zss

pub data Reading : Type 0 where
  turned_down : Refusal → Reading
  read_as : List (List ℤ) → Reading

-- of what is left of a stream, where `asked` is asked for and the outlines zss are read; by at most so many records
unfoldable pub read_by : ℕ → Awaited → List (List ℤ) → List ℕ → Reading
read_by zero asked zss s = turned_down BadRecord
read_by (suc n) asked zss s =
    let then = asked_after asked (record_type s) in
    cond (at_end asked) (read_as zss) (given (all_tested then zss s) (read_by n then (with_record zss s) (after_record s)) turned_down)

-- of a stream: no record is shorter than 4 bytes, so as many as it has bytes suffice
unfoldable pub reading : List ℕ → Reading
unfolding read_by
reading s = read_by (suc (length s)) Header [] s
