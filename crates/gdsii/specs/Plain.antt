-- The plain stream of a set: of each record that is asked for one, and an element for each outline, with a closing vertex. Definitions only.
use mathlib.Core.List.{List, [], ◌∷◌, ◌++◌, flat_map}
use Rattle.std.specs.Prelude.{ℕ, suc, ◌+◌, ◌-◌, ◌/◌, ◌%◌, ℤ, pos, negsuc, length, take}
use Rattle.lists.specs.Lists.{zeros}
use Rattle.stream.specs.Format.{HEADER, BGNLIB, LIBNAME, UNITS, BGNSTR, STRNAME, ENDSTR, ENDLIB, BOUNDARY, LAYER, DATATYPE, XY, ENDEL}
use Rattle.stream.specs.Records.{right_unit}

-- ---- numbers as bytes, the high byte first
abbrev pub two_bytes : ℕ → List ℕ
two_bytes n = n / 256 ∷ n % 256 ∷ []

abbrev pub four_of : ℕ → List ℕ
four_of n = two_bytes (n / 65536) ++ two_bytes (n % 65536)

-- signed: below zero, with 2 ^ 32 added
unfoldable pub four_bytes : ℤ → List ℕ
four_bytes (pos n) = four_of n
four_bytes (negsuc n) = four_of (4294967296 - suc n)

-- ---- records
-- of type t with data d: the length, the type, the data
abbrev pub record_bytes : ℕ → List ℕ → List ℕ
record_bytes t d = two_bytes (4 + length d) ++ two_bytes t ++ d

-- an outline's coordinates in steps, with the first vertex once more at the end
abbrev pub closed_steps : List ℤ → List ℤ
closed_steps zs = zs ++ take 2 zs

-- an outline's element
unfoldable pub element_bytes : List ℤ → List ℕ
element_bytes zs =
    record_bytes BOUNDARY []
    ++ record_bytes LAYER (two_bytes 0)
    ++ record_bytes DATATYPE (two_bytes 0)
    ++ record_bytes XY (flat_map four_bytes (closed_steps zs))
    ++ record_bytes ENDEL []

-- the name SET, of an even number of bytes
abbrev pub plain_name : List ℕ
plain_name = 0x53 ∷ 0x45 ∷ 0x54 ∷ 0 ∷ []

-- a step in metres, 10 ^ -6 / 1,024, as the nearest real of 8 bytes
abbrev pub metres_real : List ℕ
metres_real = 0x39 ∷ 0x43 ∷ 0x1B ∷ 0xDE ∷ 0x82 ∷ 0xD7 ∷ 0xB6 ∷ 0x35 ∷ []

-- ---- the stream of the outlines zss, in steps
-- what stands before the elements: version 600, both dates zero
abbrev pub plain_front : List ℕ
plain_front =
    record_bytes HEADER (two_bytes 600)
    ++ record_bytes BGNLIB (zeros 0 24)
    ++ record_bytes LIBNAME plain_name
    ++ record_bytes UNITS (right_unit ++ metres_real)
    ++ record_bytes BGNSTR (zeros 0 24)
    ++ record_bytes STRNAME plain_name

-- and after them
abbrev pub plain_end : List ℕ
plain_end = record_bytes ENDSTR [] ++ record_bytes ENDLIB []

unfoldable pub plain_stream : List (List ℤ) → List ℕ
plain_stream zss = plain_front ++ (flat_map element_bytes zss ++ plain_end)
