-- The loop of the first pass: one line is looked at in each turn, until one comes in; and what its answer says. Assumes nothing.
use mathlib.Core.Path.{◌≡◌, refl}
use mathlib.Core.Bool.{Bool, true, false, cond}
use mathlib.Core.List.{List, [], ◌∷◌}
use Prim.Native.Nat.{ℕ, suc, ◌+◌, ◌-◌, ◌≤◌, ◌<◌}
use native.Mathlib.Numerals.{add-one}
use native.Mathlib.Omega.{arith}
use lib.ListN.{length, get_or}
use lib.Dec.{ltb}
use borrow.Author.Tests.{lt-ltb, le-ltb, ltb-true, ltb-false}
use lib.Ieee.{Float, nan}
use Rattle.std.specs.Int.{from_bool}
use Rattle.boundary.specs.declared.Edge.{Edge}
use Rattle.lists.specs.Lists.{run}
use Rattle.clip.specs.declared.HalfPlane.{HalfPlane}
use Rattle.clip.specs.declared.Marks.{Marks}
use Rattle.clip.specs.declared.FirstPass.{FirstPass}
use Rattle.clip.specs.declared.FirstPass.TheVariants.{StartsAt, AllKept, NoneKept}
use Rattle.clip.specs.Passes.{marks_between, marks_of, comes_in, start_line, last_end_kept}
use Rattle.clip.specs.Lent.{line_at}

-- the marks of a line, from the column of its coordinate
pub marks_of_column : (s : HalfPlane) (w : List Float) (o k : ℕ) → k ≡ from_bool s.y → marks_between s (get_or w (o + k) nan) (get_or w (o + 2 + k) nan) ≡ marks_of s (line_at w o)
unfolding marks_of
marks_of_column s w o k h = rw h (by s.y)
  where
    by : (y : Bool) → marks_between s (get_or w (o + from_bool y) nan) (get_or w (o + 2 + from_bool y) nan) ≡ marks_between s (cond y (get_or w (o + 1) nan) (get_or w o nan)) (cond y (get_or w (o + 3) nan) (get_or w (o + 2) nan))
    by true = let e : o + 2 + 1 ≡ o + 3 = omega arith in rw e
    by false = let e : o + 0 ≡ o = omega arith in let f : o + 2 + 0 ≡ o + 2 = omega arith in rw (e, f)

module _ (s : HalfPlane) (g : ℕ → Edge) (before : Bool) (i n : ℕ) where
  pub start_here : (m : Marks) → i < n → m ≡ marks_of s (g i) → comes_in before m ≡ true → start_line s before (run g i (n - i)) ≡ 0
  unfolding run start_line
  start_here m l e h = let k : n - i ≡ suc (n - (i + 1)) = omega arith in rw (k, ← e, h)

  pub start_later : (m : Marks) → i < n → m ≡ marks_of s (g i) → comes_in before m ≡ false
      → i + start_line s before (run g i (n - i)) ≡ i + 1 + start_line s m.end_kept (run g (i + 1) (n - (i + 1)))
  unfolding run start_line
  start_later m l e h = let k : n - i ≡ suc (n - (i + 1)) = omega arith in rw (k, ← e, h, add-one i) (omega arith)

  pub start_past_all : n ≤ i → start_line s before (run g i (n - i)) ≡ 0
  unfolding run start_line
  start_past_all l = let k : n - i ≡ 0 = omega arith in rw k

pub start_le : (s : HalfPlane) (b : Bool) (es : List Edge) → start_line s b es ≤ length es
unfolding start_line
start_le s b [] = omega arith
start_le s b (e ∷ es) = by (comes_in b (marks_of s e)) _ _ (start_le s (marks_of s e).end_kept es)
  where
    by : (c : Bool) (j m : ℕ) → j ≤ m → cond c 0 (suc j) ≤ suc m
    by true j m h = omega arith
    by false j m h = omega arith

-- ---- the answer: the line that comes in, the j-th of m, or that none does, where k is the mark of all parts
abbrev told : ℕ → ℕ → Bool → FirstPass
told j m k = cond (ltb j m) (StartsAt j k) (cond k AllKept NoneKept)

module _ (j m : ℕ) (k : Bool) where
  pub tells_start : (i : ℕ) → j ≡ i → i < m → StartsAt i k ≡ told j m k
  tells_start i e l = rw (e, lt-ltb i m l)

  pub tells_none : m ≤ j → cond k AllKept NoneKept ≡ told j m k
  tells_none l = rw (le-ltb j m l)

  pub start_told : (i : ℕ) (d : Bool) → told j m k ≡ StartsAt i d → (j ≡ i) × (k ≡ d) × (j < m)
  start_told i d = by (ltb j m) refl k
    where
      by : (b : Bool) → ltb j m ≡ b → (c : Bool) → cond b (StartsAt j c) (cond c AllKept NoneKept) ≡ StartsAt i d → (j ≡ i) × (c ≡ d) × (j < m)
      by true l c e = (cc, cc, ltb-true j m l)
      by false l true e = absurd (cc)
      by false l false e = absurd (cc)

  -- whether the last line's end is kept is told in each case
  pub end_told : last_end_kept (told j m k) ≡ k
  end_told = by (ltb j m) k
    where
      by : (b c : Bool) → last_end_kept (cond b (StartsAt j c) (cond c AllKept NoneKept)) ≡ c
      by true c = refl
      by false true = refl
      by false false = refl

  pub all_told : told j m k ≡ AllKept → (m ≤ j) × (k ≡ true)
  all_told = by (ltb j m) refl k
    where
      by : (b : Bool) → ltb j m ≡ b → (c : Bool) → cond b (StartsAt j c) (cond c AllKept NoneKept) ≡ AllKept → (m ≤ j) × (c ≡ true)
      by true l c e = absurd (cc)
      by false l true e = (ltb-false j m l, refl)
      by false l false e = absurd (cc)

  pub none_told : told j m k ≡ NoneKept → (m ≤ j) × (k ≡ false)
  none_told = by (ltb j m) refl k
    where
      by : (b : Bool) → ltb j m ≡ b → (c : Bool) → cond b (StartsAt j c) (cond c AllKept NoneKept) ≡ NoneKept → (m ≤ j) × (c ≡ false)
      by true l c e = absurd (cc)
      by false l true e = absurd (cc)
      by false l false e = (ltb-false j m l, refl)
