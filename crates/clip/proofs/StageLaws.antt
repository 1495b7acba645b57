-- A list that goes from one half to the other: what the first pass says of it, and the ways in which a clip goes. Assumes nothing.
use mathlib.Core.Path.{◌≡◌, refl, sym, ap, ◌∙◌}
use mathlib.Core.List.{List, [], ◌∷◌, ◌++◌, flat_map}
use mathlib.Core.Bool.{Bool, true, false, not, ◌||◌, true≢false}
use Prim.Native.Nat.{ℕ, suc, ◌+◌, ◌-◌, ◌*◌, ◌≤◌, ◌<◌}
use native.Mathlib.Omega.{arith}
use borrow.Author.Tests.{lt-ltb, le-ltb, ltb-true}
use lib.Dec.{ltb}
use lib.ListN.{length}
use lib.Ieee.{Float}
use Rattle.boundary.specs.declared.Edge.{Edge}
use Rattle.lists.proofs.RunLaws.{run_last, length_run, take_run, drop_run}
use Rattle.lists.specs.Lists.{run, fold, any}
use Rattle.clip.specs.declared.HalfPlane.{HalfPlane}
use Rattle.clip.specs.declared.FirstPass.TheVariants.{StartsAt, AllKept, NoneKept}
use Rattle.clip.specs.declared.Stored.{Stored}
use Rattle.clip.specs.Clip.{parts, last_kept, clip_of}
use Rattle.clip.specs.Passes.{marks_of, start_line, first_pass_of, last_end_kept, traced}
use Rattle.clip.specs.Lent.{Holds, place_of, Stage}
use Rattle.clip.proofs.FirstPassLaws.{start_le, start_told, end_told, all_told, none_told}
use Rattle.clip.proofs.PassLaws.{no_entry_out, no_entry_kept, first_entry, traced_rotated, last_line, last_dropped, clip_all, clip_some, clip_none}

-- ---- the halves
pub place_le : (half : ℕ) (b : Bool) → place_of half b + 4 * half ≤ 8 * half
place_le half true = omega arith
place_le half false = omega arith

-- the list that goes into the first clip
pub begins : {half : ℕ} {w : List Float} {n : ℕ} {es : List Edge} → Holds 0 half w n es → n ≤ half → Stage half w (record { second = false; n = n }) false es
begins {half} {w} {n} {es} h l = record { flag = le-ltb half n l; held = λ z. h }

-- ---- what the first pass says
module _ (s : HalfPlane) (g : ℕ → Edge) (n : ℕ) (l : 1 ≤ n) where
  abbrev es : List Edge
  es = run g 0 n

  abbrev kept : Bool
  kept = (marks_of s (g (n - 1))).end_kept

  abbrev start : ℕ
  start = start_line s kept es

  by_last : es ≡ run g 0 (n - 1) ++ (g (n - 1) ∷ [])
  by_last =
      let k : n ≡ suc (n - 1) = omega arith in
      let z : 0 + (n - 1) ≡ n - 1 = omega arith in
      ap (run g 0) k ∙ rw (run_last g 0 (n - 1), z)

  -- whether the last part is kept is told, whether a line comes in or not
  last_is : last_kept (parts s es) ≡ kept
  last_is = ap (λ es. last_kept (parts s es)) by_last ∙ last_line s (run g 0 (n - 1)) (g (n - 1))

  pub last_told : last_kept (parts s es) ≡ last_end_kept (first_pass_of s (g (n - 1)) es)
  last_told = last_is ∙ sym (end_told start (length es) kept)

  all_looked_at : length es ≤ start → start ≡ length es
  all_looked_at h = let k = start_le s kept es in omega arith

  -- no line comes in
  pub all_parts_kept : first_pass_of s (g (n - 1)) es ≡ AllKept → any (λ p. not p.kept) (parts s es) ≡ false
  all_parts_kept e =
      let t = all_told start (length es) kept e in
      no_entry_kept s es (rw t.1 at (all_looked_at t.0)) (last_is ∙ t.1)

  pub none_kept_lem : first_pass_of s (g (n - 1)) es ≡ NoneKept → any (λ p. p.kept) (parts s es) ≡ false
  none_kept_lem e =
      let t = none_told start (length es) kept e in
      no_entry_out s es (rw t.1 at (all_looked_at t.0))

  out_at_last : kept ≡ false → any (λ p. not p.kept) (parts s es) ≡ true
  out_at_last k = rw by_last (last_dropped s (run g 0 (n - 1)) (g (n - 1)) k)

  pub last_out : last_end_kept (first_pass_of s (g (n - 1)) es) ≡ false → any (λ p. not p.kept) (parts s es) ≡ true
  last_out e = out_at_last (sym (end_told start (length es) kept) ∙ e)

  -- one does
  module _ (i : ℕ) (b : Bool) (e : first_pass_of s (g (n - 1)) es ≡ StartsAt i b) where
    comes : (start ≡ i) × (kept ≡ b) × (start < length es)
    comes = start_told start (length es) kept i b e

    pub starts_below : i < n
    starts_below = omega (arith, comes.0, comes.2, length_run g 0 n)

    pub some_dropped : any (λ p. not p.kept) (parts s es) ≡ true
    some_dropped = by kept refl
      where
        by : (b : Bool) → kept ≡ b → any (λ p. not p.kept) (parts s es) ≡ true
        by true k = (first_entry s kept es comes.2).1 k
        by false k = out_at_last k

    -- the path that the second pass writes is the clip
    pub clip_traced : clip_of s es ≡ traced s (run g i (n - i)) (run g 0 i)
    clip_traced =
        let m : i ≤ n = let k = starts_below in omega arith in
        clip_some s es some_dropped (first_entry s kept es comes.2).0
        ∙ sym (traced_rotated s es kept last_is)
        ∙ rw (comes.0, drop_run g i n m, take_run g i n m)

-- ---- the three ways of a clip
module _ (half : ℕ) (s : HalfPlane) (es : List Edge) where
  pub all_inside : {w : List Float} {c : Stored} → Stage half w c false es → any (λ p. not p.kept) (parts s es) ≡ false → Stage half w c (ltb half (length (clip_of s es))) (clip_of s es)
  all_inside h d = rw (clip_all s es d) (record { flag = ap (ltb half) (sym (h.held refl).count); held = λ z. h.held refl })

  pub all_outside : {w : List Float} (b : Bool) → any (λ p. p.kept) (parts s es) ≡ false → Stage half w (record { second = b; n = 0 }) (ltb half (length (clip_of s es))) (clip_of s es)
  unfolding run
  all_outside b k = rw (clip_none s es k) (record { flag = refl; held = λ z. record { count = refl; list = λ l. refl } })

  pub some_inside : {w : List Float} (b : Bool) (m : ℕ) → Holds (place_of half b) half w m (clip_of s es) → Stage half w (record { second = b; n = m }) (ltb half (length (clip_of s es))) (clip_of s es)
  some_inside b m h = record { flag = ap (ltb half) (sym h.count); held = λ z. h }

-- ---- a list that was too long, one that was not, and an empty one
module _ {half : ℕ} {w : List Float} {c : Stored} {long : Bool} {es : List Edge} (h : Stage half w c long es) where
  pub too_long : half < c.n → (x : Bool) (fs : List Edge) → Stage half w c (long || x) fs
  too_long l x fs =
      let t : ltb half c.n ≡ true = lt-ltb half c.n l in
      let e : long ≡ true = sym h.flag ∙ t in
      rw e (record { flag = t; held = λ z. absurd (true≢false z) })

  pub short : c.n ≤ half → long ≡ false
  short l = sym h.flag ∙ le-ltb half c.n l

-- ---- a list that stands for one of `more` lines more, which is longer than a half holds, or not
module _ {half more m : ℕ} {w : List Float} {c : Stored} {es : List Edge} (fits : more ≤ half) (all : m ≡ more + length es)
    (h : Stage half w c (ltb half (length es)) es) where
  count_held : ltb half (length es) ≡ false → length es ≡ c.n
  count_held e = (h.held e).count

  pub counted_long : half - more < c.n → (b : Bool) → Stage half w (record { second = b; n = half + 1 }) (ltb half m) es
  counted_long l b = record { flag = lt-ltb half (half + 1) (omega arith) ∙ sym over; held = λ z. absurd (true≢false (sym over ∙ z)) }
    where
      over : ltb half m ≡ true
      over = by (ltb half (length es)) refl
        where
          by : (b : Bool) → ltb half (length es) ≡ b → ltb half m ≡ true
          by true e = lt-ltb half m (let k = ltb-true half (length es) e in omega (arith, k, all))
          by false e = lt-ltb half m (omega (arith, l, all, count_held e))

  pub counted_short : c.n ≤ half - more → Stage half w c (ltb half m) es
  counted_short l =
      let e : ltb half (length es) ≡ false = sym h.flag ∙ le-ltb half c.n (omega arith) in
      let n = count_held e in
      let f : ltb half m ≡ false = le-ltb half m (omega (arith, l, all, n)) in
      record { flag = h.flag ∙ e ∙ sym f; held = λ z. h.held e }

nothing_left : (es : List Edge) → length es ≡ 0 → es ≡ []
nothing_left [] e = refl
nothing_left (x ∷ es) e = absurd (omega arith)

pub empty : {half : ℕ} {w : List Float} {c : Stored} {long : Bool} {es : List Edge} (h : Stage half w c long es) (s : HalfPlane) → c.n ≡ 0
    → Stage half w c (long || ltb half (length (clip_of s es))) (clip_of s es)
unfolding any fold parts flat_map
empty {half} {w} {c} {long} {es} h s z =
    let l : long ≡ false = short h (omega arith) in
    let e : es ≡ [] = nothing_left es ((h.held l).count ∙ z) in
    let k : clip_of s es ≡ es = rw e (clip_all s [] refl) in
    rw (l, k) (record { flag = ap (ltb half) (sym (h.held l).count); held = λ y. h.held l })
