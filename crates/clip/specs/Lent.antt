-- The lines that stand in a lent list, four numbers each, and what is left of the list while they are written. Inner definitions. Definitions only.
use Rattle.std.specs.Prelude.{◌≡◌, Bool, false, not, ◌||◌, cond, List, ℕ, ◌+◌, ◌*◌, ◌/◌, ◌≤◌, ltb, length, get_or, set, drop, Float}
use Rattle.std.specs.Float.{nan}
use Rattle.boundary.specs.declared.Edge.{Edge}
use Rattle.lists.specs.Lists.{run, any}
use Rattle.clip.specs.declared.HalfPlane.{HalfPlane}
use Rattle.clip.specs.declared.State.{State}
use Rattle.clip.specs.declared.Stored.{Stored}
use Rattle.clip.specs.Clip.{parts, clip_of}
use Rattle.clip.specs.Passes.{Path}

-- the line whose four numbers stand at o
abbrev pub line_at : List Float → ℕ → Edge
line_at w o = record { a = record { x = get_or w o nan; y = get_or w (o + 1) nan }; b = record { x = get_or w (o + 2) nan; y = get_or w (o + 3) nan } }

-- line i of those that stand from `from` on, and n of them from line i on
abbrev pub line_in : List Float → ℕ → ℕ → Edge
line_in w from i = line_at w (from + 4 * i)

abbrev pub lines_from : List Float → ℕ → ℕ → ℕ → List Edge
lines_from w from i n = run (line_in w from) i n

-- how many lines a list of numbers has room for
abbrev pub room_of : List Float → ℕ
room_of w = length w / 4

-- the list with a line stored at o
abbrev pub put_at : List Float → ℕ → Edge → List Float
put_at w o e = set (set (set (set w o e.a.x) (o + 1) e.a.y) (o + 2) e.b.x) (o + 3) e.b.y

-- what stands past the lines that a list has room for stays
abbrev pub RestKept : (w v : List Float) → Type 0
RestKept w v = drop (4 * room_of w) v ≡ drop (4 * room_of w) w

-- ---- es has n lines; where that is no more than `room`, they stand in w from `to` on
pub record Holds (to room : ℕ) (w : List Float) (n : ℕ) (es : List Edge) : Type 0 where
  pub count : length es ≡ n
  pub list : n ≤ room → lines_from w to 0 n ≡ es

-- the same of a path
pub record Tracks (to room : ℕ) (w : List Float) (s : State) (t : Path) : Type 0 where
  pub ends : s.ends ≡ t.ends
  pub held : Holds to room w s.at t.out

-- ---- the two halves of a list of `room` numbers, of `half` lines each: the most that fit twice
abbrev pub half_of : ℕ → ℕ
half_of room = room / 8

abbrev pub half_in : List Float → ℕ
half_in w = half_of (length w)

-- where a half starts
abbrev pub place_of : ℕ → Bool → ℕ
place_of half second = cond second (4 * half) 0

-- c says where es stands; or that a list was too long for a half
pub record Stage (half : ℕ) (w : List Float) (c : Stored) (long : Bool) (es : List Edge) : Type 0 where
  pub flag : ltb half c.n ≡ long
  pub held : long ≡ false → Holds (place_of half c.second) half w c.n es

-- a clip that keeps every part hands its list on: nothing is written, and the list stands where it stood
pub record Untouched (w v : List Float) (c r : Stored) : Type 0 where
  pub unwritten : v ≡ w
  pub stands : r ≡ c

-- the list that c says, clipped: nothing past both halves has changed
pub record Clipped (half : ℕ) (s : HalfPlane) (w v : List Float) (c r : Stored) : Type 0 where
  pub same : length v ≡ length w
  pub rest : drop (8 * half) v ≡ drop (8 * half) w
  pub staged : (long : Bool) (es : List Edge) → Stage half w c long es → Stage half v r (long || ltb half (length (clip_of s es))) (clip_of s es)
  pub untouched : (es : List Edge) → Stage half w c false es → any (λ p. not p.kept) (parts s es) ≡ false → Untouched w v c r
