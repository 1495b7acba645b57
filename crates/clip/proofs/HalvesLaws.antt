-- A list that is cut into two halves and the rest: the lines of a half as they stand in the whole, and the whole after lines are written to a half. Assumes nothing.
use Rattle.std.proofs.Common.{◌≡◌, ℕ, Bool, true, false, not, ◌+◌, ◌-◌, ◌*◌, ◌<◌, ◌≤◌, List, ◌++◌, length, get_or, take, drop, sym, ap, ◌∙◌, append_assoc, length-append, length-drop, arith}
use Rattle.std.proofs.lemmas.List.{get_or-take, get_or-append-add, length-take-le}
use lib.ListN.{get_or-append}
use lib.Seq.{drop_at}
use lib.Ieee.{Float, nan}
use Rattle.boundary.specs.declared.Edge.{Edge}
use Rattle.lists.specs.Lists.{any}
use Rattle.clip.specs.declared.HalfPlane.{HalfPlane}
use Rattle.clip.specs.declared.FirstPass.{FirstPass}
use Rattle.clip.specs.declared.FirstPass.TheVariants.{StartsAt, AllKept, NoneKept}
use Rattle.clip.specs.Clip.{parts, clip_of}
use Rattle.clip.specs.Passes.{first_pass_of, last_end_kept, traced}
use Rattle.clip.specs.Lent.{room_of, line_in, lines_from, place_of, Holds}
use Rattle.clip.proofs.StageLaws.{place_le, all_parts_kept, none_kept_lem, last_out, starts_below, some_dropped, clip_traced}
use Rattle.clip.proofs.LentLaws.{part_lines, slice_at}

front_at : (us vs : List Float) (i : ℕ) → i < length us → get_or us i nan ≡ get_or (us ++ vs) (0 + i) nan
front_at us vs i l = let z : 0 + i ≡ i = omega arith in rw z (sym (get_or-append us vs nan i l))

second_at : (us vs zs : List Float) (n i : ℕ) → length us ≡ n → i < length vs → get_or vs i nan ≡ get_or (us ++ (vs ++ zs)) (n + i) nan
second_at us vs zs n i e l = rw (← e) (sym (get_or-append-add us (vs ++ zs) i nan ∙ get_or-append vs zs nan i l))

pub room_taken : (n : ℕ) (v : List Float) → 4 * n ≤ length v → room_of (take (4 * n) v) ≡ n
room_taken n v l = omega (arith, length-take-le (4 * n) v l)

module _ (half : ℕ) (w xs rest ys zs : List Float) (e : w ≡ xs ++ rest) (f : rest ≡ ys ++ zs) (p : length xs ≡ 4 * half) (q : length ys ≡ 4 * half) where
  whole : w ≡ xs ++ (ys ++ zs)
  whole = e ∙ ap (λ (r : List Float). xs ++ r) f

  tail : (us vs : List Float) → length us ≡ 4 * half → length vs ≡ 4 * half → drop (8 * half) (us ++ (vs ++ zs)) ≡ zs
  tail us vs a b = let n : length (us ++ vs) ≡ 8 * half = omega (arith, length-append us vs) in rw (← append_assoc us vs zs) (drop_at (us ++ vs) zs (8 * half) n)

  -- what stands past both halves
  pub past_halves : (us vs : List Float) → length us ≡ 4 * half → length vs ≡ 4 * half → drop (8 * half) (us ++ (vs ++ zs)) ≡ drop (8 * half) w
  past_halves us vs a b = tail us vs a b ∙ sym (ap (drop (8 * half)) whole ∙ tail xs ys p q)

  -- the first n lines of a half
  pub from_first : (n i m : ℕ) → n ≤ half → i + m ≤ n → lines_from (take (4 * n) xs) 0 i m ≡ lines_from w 0 i m
  from_first n i m l k = rw whole (part_lines (xs ++ (ys ++ zs)) (take (4 * n) xs) 0 n (λ j h. get_or-take (4 * n) xs j nan h ∙ front_at xs (ys ++ zs) j (omega arith)) i m k)

  pub from_second : (n i m : ℕ) → n ≤ half → i + m ≤ n → lines_from (take (4 * n) ys) 0 i m ≡ lines_from w (4 * half) i m
  from_second n i m l k = rw whole (part_lines (xs ++ (ys ++ zs)) (take (4 * n) ys) (4 * half) n (λ j h. get_or-take (4 * n) ys j nan h ∙ second_at xs ys zs (4 * half) j p (omega arith)) i m k)

  -- lines written to a half
  pub in_first : {es : List Edge} (us : List Float) (m : ℕ) → length us ≡ 4 * half → Holds 0 (room_of xs) us m es → Holds 0 half (us ++ (ys ++ zs)) m es
  in_first us m a h = record {
    count = h.count;
    list = λ l. sym (part_lines (us ++ (ys ++ zs)) us 0 half (λ j k. front_at us (ys ++ zs) j (omega arith)) 0 m (omega arith)) ∙ h.list (omega arith);
  }

  pub in_second : {es : List Edge} (vs : List Float) (m : ℕ) → length vs ≡ 4 * half → Holds 0 (room_of ys) vs m es → Holds (4 * half) half (xs ++ (vs ++ zs)) m es
  in_second vs m a h = record {
    count = h.count;
    list = λ l. sym (part_lines (xs ++ (vs ++ zs)) vs (4 * half) half (λ j k. second_at xs vs zs (4 * half) j p (omega arith)) 0 m (omega arith)) ∙ h.list (omega arith);
  }

-- a list of n lines in a half stands within the whole
pub half_fits : (w : List Float) (half n from : ℕ) (b : Bool) → 8 * half ≤ length w → n ≤ half → from ≡ place_of half b → from + 4 * n ≤ length w
half_fits w half n from b h l e = omega (arith, e, place_le half b)

-- lines written to the front of a list
pub front_written : (out rest : List Float) (n : ℕ) → 4 * n ≤ length out → lines_from (out ++ rest) 0 0 n ≡ lines_from out 0 0 n
front_written out rest n h = sym (part_lines (out ++ rest) out 0 n (λ j m. front_at out rest j (omega arith)) 0 n (omega arith))

-- ---- the n lines that stand from `from` on, as a part of the list
module _ (w : List Float) (from n : ℕ) (l : from + 4 * n ≤ length w) where
  abbrev pub part : List Float
  part = take (from + 4 * n - from) (drop from w)

  pub room_part : room_of part ≡ n
  room_part = omega (arith, length-drop from w, length-take-le (from + 4 * n - from) (drop from w) (omega (arith, length-drop from w)))

  pub lines_part : (i m : ℕ) → i + m ≤ n → lines_from part 0 i m ≡ lines_from w from i m
  lines_part i m k = part_lines w part from n (λ j h. slice_at w from (from + 4 * n - from) j (omega arith)) i m k

  pub same_lines : lines_from part 0 0 (room_of part) ≡ lines_from w from 0 n
  same_lines = rw room_part (lines_part 0 n (omega arith))

  -- what the first pass says of them
  module _ (s : HalfPlane) (some : 1 ≤ n) where
    abbrev found : FirstPass
    found = first_pass_of s (line_in part 0 (room_of part - 1)) (lines_from part 0 0 (room_of part))

    some_part : 1 ≤ room_of part
    some_part = rw room_part some

    pub found_all : found ≡ AllKept → any (λ p. not p.kept) (parts s (lines_from w from 0 n)) ≡ false
    found_all e = rw same_lines at (all_parts_kept s (line_in part 0) (room_of part) some_part e)

    pub found_none : found ≡ NoneKept → any (λ p. p.kept) (parts s (lines_from w from 0 n)) ≡ false
    found_none e = rw same_lines at (none_kept_lem s (line_in part 0) (room_of part) some_part e)

    pub found_out : found ≡ NoneKept → any (λ p. not p.kept) (parts s (lines_from w from 0 n)) ≡ true
    found_out e = rw same_lines at (last_out s (line_in part 0) (room_of part) some_part (ap last_end_kept e))

    module _ (i : ℕ) (b : Bool) (e : found ≡ StartsAt i b) where
      pub found_below : i < n
      found_below = rw room_part at (starts_below s (line_in part 0) (room_of part) some_part i b e)

      pub found_dropped : any (λ p. not p.kept) (parts s (lines_from w from 0 n)) ≡ true
      found_dropped = rw same_lines at (some_dropped s (line_in part 0) (room_of part) some_part i b e)

      pub found_traced : clip_of s (lines_from w from 0 n) ≡ traced s (lines_from w from i (n - i)) (lines_from w from 0 i)
      found_traced =
          let k = found_below in
          let before = lines_part 0 i (omega arith) in
          let after = lines_part i (n - i) (omega arith) in
          rw (same_lines, room_part, before, after) at (clip_traced s (line_in part 0) (room_of part) some_part i b e)
