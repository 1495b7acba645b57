-- Worked streams, by computing what is read of them. Assumes nothing.
use mathlib.Core.Path.{◌≡◌, refl}
use mathlib.Core.Bool.{true, false}
use mathlib.Core.List.{List, [], ◌∷◌, ◌++◌, flat_map}
use Prim.Native.Nat.{ℕ}
use lib.IntN.{ℤ, pos, negsuc}
use lib.Ieee.{fin, add, sub, mul, div, neg, lt, le, eq, of_int}
use Rattle.lists.specs.Lists.{run, fold, any, total}
use Rattle.boundary.specs.Outline.{vertices, edges}
use Rattle.accept.specs.declared.Refusal.TheVariants.{TooFew, ZeroArea, BadRecord, OtherUnit, BeyondReach}
use Rattle.accept.specs.Area.{area_of}
use Rattle.accept.specs.Refusals.{◌refusing◌when◌, given, count_tested, values_tested, shape_tested, outline_tested}
use Rattle.geometry.specs.Making.{closed, kept_count, kept, turned, coordinates_of, made_of}
use Rattle.stream.specs.Bytes.{signed_quad, steps_in}
use Rattle.stream.specs.Records.{record_data, after_record, asked_after, at_end, astray, misfit, same_bytes, other_unit}
use Rattle.xy.specs.Outlines.{microns_of, xy_tested}
use Rattle.gdsii.specs.Reading.{set_of, counts_of, record_tested, joining_tested, all_tested, with_record, turned_down, read_as, read_by, reading}
use Rattle.gdsii.specs.Plain.{four_bytes, closed_steps, element_bytes, plain_stream}
use Rattle.gdsii.proofs.PassedLaws.{near_within}
use Rattle.gdsii.proofs.ReadBack.{AsMade}

-- HEADER, BGNLIB, LIBNAME, each without data
abbrev head : List ℕ
head = 0 ∷ 4 ∷ 0 ∷ 2 ∷ 0 ∷ 4 ∷ 1 ∷ 2 ∷ 0 ∷ 4 ∷ 2 ∷ 6 ∷ []

-- UNITS: 1/1,024, and a second real
abbrev units : List ℕ
units = 0 ∷ 0x14 ∷ 3 ∷ 5 ∷ 0x3E ∷ 0x40 ∷ 0 ∷ 0 ∷ 0 ∷ 0 ∷ 0 ∷ 0 ∷ 0x39 ∷ 0x43 ∷ 0x1B ∷ 0xDE ∷ 0x82 ∷ 0xD7 ∷ 0xB6 ∷ 0x34 ∷ []

-- the same with another first real
abbrev other_units : List ℕ
other_units = 0 ∷ 0x14 ∷ 3 ∷ 5 ∷ 0x3E ∷ 0x41 ∷ 0 ∷ 0 ∷ 0 ∷ 0 ∷ 0 ∷ 0 ∷ 0x39 ∷ 0x43 ∷ 0x1B ∷ 0xDE ∷ 0x82 ∷ 0xD7 ∷ 0xB6 ∷ 0x34 ∷ []

-- BGNSTR, STRNAME
abbrev name : List ℕ
name = 0 ∷ 4 ∷ 5 ∷ 2 ∷ 0 ∷ 4 ∷ 6 ∷ 6 ∷ []

-- BOUNDARY, LAYER, DATATYPE
abbrev element : List ℕ
element = 0 ∷ 4 ∷ 8 ∷ 0 ∷ 0 ∷ 4 ∷ 0x0D ∷ 2 ∷ 0 ∷ 4 ∷ 0x0E ∷ 2 ∷ []

-- XY without data
abbrev bare : List ℕ
bare = 0 ∷ 4 ∷ 0x10 ∷ 3 ∷ []

-- XY with (0, 0), (1048577, 0)
abbrev far : List ℕ
far = 0 ∷ 0x14 ∷ 0x10 ∷ 3 ∷ 0 ∷ 0 ∷ 0 ∷ 0 ∷ 0 ∷ 0 ∷ 0 ∷ 0 ∷ 0 ∷ 0x10 ∷ 0 ∷ 1 ∷ 0 ∷ 0 ∷ 0 ∷ 0 ∷ []

-- XY with (0, 0), (-1048577, 0)
abbrev low : List ℕ
low = 0 ∷ 0x14 ∷ 0x10 ∷ 3 ∷ 0 ∷ 0 ∷ 0 ∷ 0 ∷ 0 ∷ 0 ∷ 0 ∷ 0 ∷ 0xFF ∷ 0xEF ∷ 0xFF ∷ 0xFF ∷ 0 ∷ 0 ∷ 0 ∷ 0 ∷ []

-- XY with 1048577, 0, 5: no multiple of 8 bytes
abbrev half : List ℕ
half = 0 ∷ 0x10 ∷ 0x10 ∷ 3 ∷ 0 ∷ 0x10 ∷ 0 ∷ 1 ∷ 0 ∷ 0 ∷ 0 ∷ 0 ∷ 0 ∷ 0 ∷ 0 ∷ 5 ∷ []

-- XY with (0, 0), (1048576, -1048576), (3, -1)
abbrev corner : List ℕ
corner = 0 ∷ 0x1C ∷ 0x10 ∷ 3 ∷ 0 ∷ 0 ∷ 0 ∷ 0 ∷ 0 ∷ 0 ∷ 0 ∷ 0 ∷ 0 ∷ 0x10 ∷ 0 ∷ 0 ∷ 0xFF ∷ 0xF0 ∷ 0 ∷ 0 ∷ 0 ∷ 0 ∷ 0 ∷ 3 ∷ 0xFF ∷ 0xFF ∷ 0xFF ∷ 0xFF ∷ []

abbrev corner_steps : List ℤ
corner_steps = pos 0 ∷ pos 0 ∷ pos 1048576 ∷ negsuc 1048575 ∷ pos 3 ∷ negsuc 0 ∷ []

-- XY with (0, 0), (0, 2048), (1024, 0), (0, 0): clockwise, with a closing vertex
abbrev back : List ℕ
back = 0 ∷ 0x24 ∷ 0x10 ∷ 3 ∷ 0 ∷ 0 ∷ 0 ∷ 0 ∷ 0 ∷ 0 ∷ 0 ∷ 0 ∷ 0 ∷ 0 ∷ 0 ∷ 0 ∷ 0 ∷ 0 ∷ 8 ∷ 0 ∷ 0 ∷ 0 ∷ 4 ∷ 0 ∷ 0 ∷ 0 ∷ 0 ∷ 0 ∷ 0 ∷ 0 ∷ 0 ∷ 0 ∷ 0 ∷ 0 ∷ 0 ∷ 0 ∷ []

abbrev back_steps : List ℤ
back_steps = pos 0 ∷ pos 0 ∷ pos 0 ∷ pos 2048 ∷ pos 1024 ∷ pos 0 ∷ pos 0 ∷ pos 0 ∷ []

-- XY with (0, 0), (1, 1), (3, 3)
abbrev thin : List ℕ
thin = 0 ∷ 0x1C ∷ 0x10 ∷ 3 ∷ 0 ∷ 0 ∷ 0 ∷ 0 ∷ 0 ∷ 0 ∷ 0 ∷ 0 ∷ 0 ∷ 0 ∷ 0 ∷ 1 ∷ 0 ∷ 0 ∷ 0 ∷ 1 ∷ 0 ∷ 0 ∷ 0 ∷ 3 ∷ 0 ∷ 0 ∷ 0 ∷ 3 ∷ []

-- ENDEL
abbrev endel : List ℕ
endel = 0 ∷ 4 ∷ 0x11 ∷ 0 ∷ []

-- ENDSTR
abbrev endstr : List ℕ
endstr = 0 ∷ 4 ∷ 7 ∷ 0 ∷ []

-- ENDLIB
abbrev endlib : List ℕ
endlib = 0 ∷ 4 ∷ 4 ∷ 0 ∷ []

-- ---- without outlines
-- a structure without elements
pub no_elements : reading (head ++ units ++ name ++ endstr ++ endlib) ≡ read_as []
unfolding record_data after_record asked_after at_end astray misfit same_bytes other_unit ◌refusing◌when◌ given record_tested all_tested with_record read_by reading
no_elements = refl

-- bytes after ENDLIB are not read
pub bytes_after : reading (head ++ units ++ name ++ endstr ++ endlib ++ (1 ∷ 2 ∷ 3 ∷ [])) ≡ read_as []
unfolding record_data after_record asked_after at_end astray misfit same_bytes other_unit ◌refusing◌when◌ given record_tested all_tested with_record read_by reading
bytes_after = refl

-- no bytes at all
pub no_bytes : reading [] ≡ turned_down BadRecord
unfolding record_data after_record asked_after at_end astray misfit same_bytes other_unit ◌refusing◌when◌ given record_tested all_tested with_record read_by reading
no_bytes = refl

-- another unit, before what is missing
pub other_unit_lem : reading (head ++ other_units) ≡ turned_down OtherUnit
unfolding record_data after_record asked_after at_end astray misfit same_bytes other_unit ◌refusing◌when◌ given record_tested all_tested with_record read_by reading
other_unit_lem = refl

-- ENDLIB missing
pub no_end : reading (head ++ units ++ name ++ endstr) ≡ turned_down BadRecord
unfolding record_data after_record asked_after at_end astray misfit same_bytes other_unit ◌refusing◌when◌ given record_tested all_tested with_record read_by reading
no_end = refl

-- ENDLIB a byte longer than what is left
pub cut_short_lem : reading (head ++ units ++ name ++ endstr ++ (0 ∷ 5 ∷ 4 ∷ 0 ∷ [])) ≡ turned_down BadRecord
unfolding record_data after_record asked_after at_end astray misfit same_bytes other_unit ◌refusing◌when◌ given record_tested all_tested with_record read_by reading
cut_short_lem = refl

-- ---- with outlines
-- one with coordinates at the reach
pub one_outline : reading (head ++ units ++ name ++ element ++ corner ++ endel ++ endstr ++ endlib) ≡ read_as (corner_steps ∷ [])
unfolding flat_map run fold any total add sub mul div neg lt le eq of_int vertices edges area_of ◌refusing◌when◌ given count_tested values_tested shape_tested closed kept_count kept turned coordinates_of made_of signed_quad steps_in record_data after_record asked_after at_end astray misfit same_bytes other_unit microns_of xy_tested set_of counts_of record_tested joining_tested all_tested with_record read_by reading
one_outline = refl

-- two, in stream order
pub two_outlines : reading (head ++ units ++ name ++ element ++ corner ++ endel ++ element ++ back ++ endel ++ endstr ++ endlib) ≡ read_as (corner_steps ∷ back_steps ∷ [])
unfolding flat_map run fold any total add sub mul div neg lt le eq of_int vertices edges area_of ◌refusing◌when◌ given count_tested values_tested shape_tested closed kept_count kept turned coordinates_of made_of signed_quad steps_in record_data after_record asked_after at_end astray misfit same_bytes other_unit microns_of xy_tested set_of counts_of record_tested joining_tested all_tested with_record read_by reading
two_outlines = refl

-- the closing vertex is dropped
pub dropped : counts_of (corner_steps ∷ back_steps ∷ []) ≡ 3 ∷ 3 ∷ []
unfolding div eq of_int closed kept_count kept microns_of counts_of
dropped = refl

-- and a negative outline reversed, in µm: (1, 0), (0, 2), (0, 0)
pub reversed : set_of (back_steps ∷ []) ≡ fin false 1 (pos 0) ∷ fin false 0 (pos 0) ∷ fin false 0 (pos 0) ∷ fin false 1 (pos 1) ∷ fin false 0 (pos 0) ∷ fin false 0 (pos 0) ∷ []
unfolding flat_map run fold total add sub mul div neg lt eq of_int vertices edges area_of closed kept_count kept turned coordinates_of made_of microns_of set_of
reversed = refl

-- an area of zero
pub no_area : reading (head ++ units ++ name ++ element ++ thin ++ endel ++ endstr ++ endlib) ≡ turned_down ZeroArea
unfolding flat_map run fold any total add sub mul div neg lt le eq of_int vertices edges area_of ◌refusing◌when◌ given count_tested values_tested shape_tested closed kept_count kept turned coordinates_of made_of signed_quad steps_in record_data after_record asked_after at_end astray misfit same_bytes other_unit microns_of xy_tested set_of counts_of record_tested joining_tested all_tested with_record read_by reading
no_area = refl

-- ENDEL missing
pub no_endel : reading (head ++ units ++ name ++ element ++ corner ++ endstr ++ endlib) ≡ turned_down BadRecord
unfolding flat_map run fold any total add sub mul div neg lt le eq of_int vertices edges area_of ◌refusing◌when◌ given count_tested values_tested shape_tested closed kept_count kept turned coordinates_of made_of signed_quad steps_in record_data after_record asked_after at_end astray misfit same_bytes other_unit microns_of xy_tested set_of counts_of record_tested joining_tested all_tested with_record read_by reading
no_endel = refl

-- an XY without data, before ENDEL is missed
pub no_data : reading (head ++ units ++ name ++ element ++ bare) ≡ turned_down TooFew
unfolding fold any record_data after_record asked_after at_end astray misfit same_bytes other_unit steps_in ◌refusing◌when◌ given count_tested shape_tested closed kept_count kept xy_tested record_tested joining_tested all_tested with_record read_by reading
no_data = refl

-- a coordinate beyond the reach, before its outline's own refusal
pub too_far_lem : reading (head ++ units ++ name ++ element ++ far ++ endel ++ endstr ++ endlib) ≡ turned_down BeyondReach
unfolding fold any record_data after_record asked_after at_end astray misfit same_bytes other_unit signed_quad steps_in ◌refusing◌when◌ given xy_tested record_tested joining_tested all_tested with_record read_by reading
too_far_lem = refl

-- and on the other side
pub too_low : reading (head ++ units ++ name ++ element ++ low ++ endel ++ endstr ++ endlib) ≡ turned_down BeyondReach
unfolding fold any record_data after_record asked_after at_end astray misfit same_bytes other_unit signed_quad steps_in ◌refusing◌when◌ given xy_tested record_tested joining_tested all_tested with_record read_by reading
too_low = refl

-- a record's 16 before its outline's 18
pub halved : reading (head ++ units ++ name ++ element ++ half ++ endel ++ endstr ++ endlib) ≡ turned_down BadRecord
unfolding record_data after_record asked_after at_end astray misfit same_bytes other_unit steps_in ◌refusing◌when◌ given record_tested joining_tested all_tested with_record read_by reading
halved = refl

-- ---- the plain stream of one square: (0, -1024), (1024, -1024), (1024, 0), (0, 0)
abbrev square : List ℤ
square = pos 0 ∷ negsuc 1023 ∷ pos 1024 ∷ negsuc 1023 ∷ pos 1024 ∷ pos 0 ∷ pos 0 ∷ pos 0 ∷ []

-- its element
pub square_element : element_bytes square
    ≡ 0 ∷ 4 ∷ 8 ∷ 0 ∷ 0 ∷ 6 ∷ 0x0D ∷ 2 ∷ 0 ∷ 0 ∷ 0 ∷ 6 ∷ 0x0E ∷ 2 ∷ 0 ∷ 0 ∷ 0 ∷ 0x2C ∷ 0x10 ∷ 3
    ∷ 0 ∷ 0 ∷ 0 ∷ 0 ∷ 0xFF ∷ 0xFF ∷ 0xFC ∷ 0 ∷ 0 ∷ 0 ∷ 4 ∷ 0 ∷ 0xFF ∷ 0xFF ∷ 0xFC ∷ 0 ∷ 0 ∷ 0 ∷ 4 ∷ 0 ∷ 0 ∷ 0 ∷ 0 ∷ 0 ∷ 0 ∷ 0 ∷ 0 ∷ 0 ∷ 0 ∷ 0 ∷ 0 ∷ 0 ∷ 0 ∷ 0 ∷ 0 ∷ 0 ∷ 0xFF ∷ 0xFF ∷ 0xFC ∷ 0 ∷ 0 ∷ 4 ∷ 0x11 ∷ 0 ∷ []
unfolding flat_map four_bytes element_bytes
square_element = refl

-- it is read
pub square_read : reading (plain_stream (square ∷ [])) ≡ read_as (closed_steps square ∷ [])
unfolding flat_map run fold any total add sub mul div neg lt le eq of_int vertices edges area_of ◌refusing◌when◌ given count_tested values_tested shape_tested closed kept_count kept turned coordinates_of made_of signed_quad steps_in record_data after_record asked_after at_end astray misfit same_bytes other_unit microns_of xy_tested set_of counts_of record_tested joining_tested all_tested with_record read_by reading four_bytes element_bytes plain_stream
square_read = refl

-- as the square, in µm
pub square_back : set_of (closed_steps square ∷ []) ≡ fin false 0 (pos 0) ∷ fin true 1 (pos 0) ∷ fin false 1 (pos 0) ∷ fin true 1 (pos 0) ∷ fin false 1 (pos 0) ∷ fin false 0 (pos 0) ∷ fin false 0 (pos 0) ∷ fin false 0 (pos 0) ∷ []
unfolding flat_map run fold total add sub mul div neg lt eq of_int vertices edges area_of closed kept_count kept turned coordinates_of made_of microns_of set_of
square_back = refl

-- making leaves it as it is
pub square_made : AsMade square
unfolding run fold any total add sub mul div neg lt le eq of_int vertices edges area_of ◌refusing◌when◌ given count_tested values_tested shape_tested outline_tested microns_of
square_made = record { within = near_within square refl; accepted = refl }
