-- The format of document 02, U3: which byte streams hold which outlines. Nothing here knows of a reader, of places or of an order of tests. Definitions only.
use Rattle.std.specs.Prelude.{◌≡◌, List, [], ◌∷◌, ◌++◌, ℕ, ◌+◌, ◌%◌, ℤ, length, take}
use Rattle.stream.specs.Bytes.{pair_of, steps_in}

-- ---- the types
abbrev pub HEADER : ℕ
HEADER = 0x0002

abbrev pub BGNLIB : ℕ
BGNLIB = 0x0102

abbrev pub LIBNAME : ℕ
LIBNAME = 0x0206

abbrev pub UNITS : ℕ
UNITS = 0x0305

abbrev pub BGNSTR : ℕ
BGNSTR = 0x0502

abbrev pub STRNAME : ℕ
STRNAME = 0x0606

abbrev pub ENDSTR : ℕ
ENDSTR = 0x0700

abbrev pub ENDLIB : ℕ
ENDLIB = 0x0400

abbrev pub BOUNDARY : ℕ
BOUNDARY = 0x0800

abbrev pub LAYER : ℕ
LAYER = 0x0D02

abbrev pub DATATYPE : ℕ
DATATYPE = 0x0E02

abbrev pub XY : ℕ
XY = 0x1003

abbrev pub ENDEL : ℕ
ENDEL = 0x1100

-- ---- a record
-- the stream s is a record of type t with data d, and r after it: its length in bytes, itself and the type included, then the type, two bytes each, then the data
pub record Record (t : ℕ) (d s r : List ℕ) : Type 0 where
  pub l₁ : ℕ
  pub l₀ : ℕ
  pub t₁ : ℕ
  pub t₀ : ℕ
  pub bytes : s ≡ l₁ ∷ l₀ ∷ t₁ ∷ t₀ ∷ d ++ r
  pub long : pair_of l₁ l₀ ≡ 4 + length d
  pub kind : pair_of t₁ t₀ ≡ t

-- a portion of a stream: P s r says that s is the portion, and r after it
abbrev pub Portion : Type 1
Portion = List ℕ → List ℕ → Type 0

-- one portion, then another
infixr 30 ◌⨾◌
abbrev pub ◌⨾◌ : Portion → Portion → Portion
(P ⨾ Q) s r = (m : List ℕ) × P s m × Q m r

-- a record of which only length and type count
abbrev pub typed : ℕ → Portion
typed t s r = (d : List ℕ) × Record t d s r

-- UNITS: two reals of 8 bytes, the first of the bytes u
abbrev pub stream_units : List ℕ → Portion
stream_units u s r = (d : List ℕ) × Record UNITS d s r × (length d ≡ 16) × (take 8 d ≡ u)

-- XY: an outline's coordinates zs in steps, x then y of each vertex
abbrev pub outline_of : List ℤ → Portion
outline_of zs s r = (d : List ℕ) × Record XY d s r × (length d % 8 ≡ 0) × (steps_in d ≡ zs)

-- ---- which records in which order
abbrev pub element : List ℤ → Portion
element zs = typed BOUNDARY ⨾ typed LAYER ⨾ typed DATATYPE ⨾ outline_of zs ⨾ typed ENDEL

-- an element for each outline
unfoldable pub elements : List (List ℤ) → Portion
elements [] s r = s ≡ r
elements (zs ∷ zss) s r = (element zs ⨾ elements zss) s r

abbrev pub structure : List (List ℤ) → Portion
structure zss = typed BGNSTR ⨾ typed STRNAME ⨾ elements zss ⨾ typed ENDSTR

abbrev pub library : List ℕ → List (List ℤ) → Portion
library u zss = typed HEADER ⨾ typed BGNLIB ⨾ typed LIBNAME ⨾ stream_units u ⨾ structure zss ⨾ typed ENDLIB

-- s is a stream with the outlines zss, the first real of its UNITS has the bytes u; any bytes may stand after ENDLIB
abbrev pub Stream : List ℕ → List (List ℤ) → List ℕ → Type 0
Stream u zss s = (r : List ℕ) × library u zss s r
