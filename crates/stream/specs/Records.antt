-- The record that a stream opens with, which record is asked for after which, and what may be wrong with a record (document 02, U3). Definitions only.
use Rattle.std.specs.Prelude.{◌≡◌, Bool, true, false, not, ◌&&◌, ◌||◌, cond, List, [], ◌∷◌, ℕ, ◌+◌, ◌-◌, ◌%◌, ◌≤◌, eqb, ltb, ℤ, nat_abs, length, take, drop}
use Rattle.lists.specs.Lists.{any}
use Rattle.stream.specs.declared.Awaited.{Awaited}
use Rattle.stream.specs.declared.Awaited.TheVariants.{Header, Bgnlib, Libname, Units, Bgnstr, Strname, Element, Layer, Datatype, Xy, Endel, Endlib, Nothing, Astray}
use Rattle.stream.specs.Bytes.{pair_at}
use Rattle.stream.specs.Format.{HEADER, BGNLIB, LIBNAME, UNITS, BGNSTR, STRNAME, ENDSTR, ENDLIB, BOUNDARY, LAYER, DATATYPE, XY, ENDEL}

-- ---- the record that s opens with: its length, its type, its data, and what stands after it
abbrev pub record_size : List ℕ → ℕ
record_size s = pair_at s 0

abbrev pub record_type : List ℕ → ℕ
record_type s = pair_at s 2

unfoldable pub record_data : List ℕ → List ℕ
record_data s = take (record_size s - 4) (drop 4 s)

unfoldable pub after_record : List ℕ → List ℕ
after_record s = drop (record_size s) s

-- ---- the order: a type where one type is asked for, and what is asked for after it
abbrev pub asked_for : ℕ → ℕ → Awaited → Awaited
asked_for t type then = cond (eqb t type) then Astray

-- what is asked for after a record of type t
unfoldable pub asked_after : Awaited → ℕ → Awaited
asked_after Header t = asked_for t HEADER Bgnlib
asked_after Bgnlib t = asked_for t BGNLIB Libname
asked_after Libname t = asked_for t LIBNAME Units
asked_after Units t = asked_for t UNITS Bgnstr
asked_after Bgnstr t = asked_for t BGNSTR Strname
asked_after Strname t = asked_for t STRNAME Element
asked_after Element t = cond (eqb t BOUNDARY) Layer (asked_for t ENDSTR Endlib)
asked_after Layer t = asked_for t LAYER Datatype
asked_after Datatype t = asked_for t DATATYPE Xy
asked_after Xy t = asked_for t XY Endel
asked_after Endel t = asked_for t ENDEL Element
asked_after Endlib t = asked_for t ENDLIB Nothing
asked_after Nothing t = Astray
asked_after Astray t = Astray

-- nothing more is asked for: ENDLIB is read
unfoldable pub at_end : Awaited → Bool
at_end Header = false
at_end Bgnlib = false
at_end Libname = false
at_end Units = false
at_end Bgnstr = false
at_end Strname = false
at_end Element = false
at_end Layer = false
at_end Datatype = false
at_end Xy = false
at_end Endel = false
at_end Endlib = false
at_end Nothing = true
at_end Astray = false

-- another type came than the order asks for
unfoldable pub astray : Awaited → Bool
astray Header = false
astray Bgnlib = false
astray Libname = false
astray Units = false
astray Bgnstr = false
astray Strname = false
astray Element = false
astray Layer = false
astray Datatype = false
astray Xy = false
astray Endel = false
astray Endlib = false
astray Nothing = false
astray Astray = true

-- ---- what may be wrong
-- 16: the record is missing, cut short, or of a length below 4
abbrev pub cut_short : List ℕ → Bool
cut_short s = ltb (record_size s) 4 || ltb (length s) (record_size s)

-- 16: with n bytes of data, a UNITS not of 20 bytes, an XY whose data is no multiple of 8
unfoldable pub misfit : ℕ → ℕ → Bool
misfit t n = (eqb t UNITS && not (eqb (n + 4) 20)) || (eqb t XY && not (eqb (n % 8) 0))

-- 17: the first 8 bytes are not those of 1/1,024
abbrev pub right_unit : List ℕ
right_unit = 0x3E ∷ 0x40 ∷ 0 ∷ 0 ∷ 0 ∷ 0 ∷ 0 ∷ 0 ∷ []

unfoldable pub same_bytes : List ℕ → List ℕ → Bool
same_bytes [] [] = true
same_bytes [] (b ∷ y) = false
same_bytes (a ∷ x) [] = false
same_bytes (a ∷ x) (b ∷ y) = eqb a b && same_bytes x y

unfoldable pub other_unit : List ℕ → Bool
unfolding same_bytes
other_unit d = not (same_bytes (take 8 d) right_unit)

-- 18: a coordinate is beyond ±1,048,576 steps
abbrev pub far_step : ℤ → Bool
far_step z = ltb 1048576 (nat_abs z)

abbrev pub any_far : List ℤ → Bool
any_far zs = any far_step zs

-- r stands for z: both are beyond the reach, or they are the same
pub record SameStep (z r : ℤ) : Type 0 where
  pub far : far_step r ≡ far_step z
  pub near : far_step z ≡ false → r ≡ z
  pub small : nat_abs r ≤ 4294967296
