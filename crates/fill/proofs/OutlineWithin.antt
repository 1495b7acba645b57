-- AN OUTLINE WHOLLY INSIDE A CELL, of a call whose tests pass: all four clips hand its edges on, and its fill is the sum over them. Assumes nothing.
use Rattle.std.proofs.Common.{Ok}
use Rattle.accept.specs.Refusals.{Answer, all_passed}
use mathlib.Core.Path.{◌≡◌, sym, ap, ◌∙◌, subst}
use mathlib.Core.Bool.{true, false}
use mathlib.Core.List.{List}
use Prim.Native.Nat.{ℕ, ◌<◌}
use borrow.Author.Tests.{le-ltb}
use lib.Dec.{ltb}
use lib.ListN.{length}
use lib.Ieee.{Float, le}
use lib.Ieee.Bits.{is_true}
use Rattle.number.specs.Exact.{Doubles}
use Rattle.lists.specs.Lists.{Every, total}
use Rattle.lists.proofs.RunLaws.{length_run}
use Rattle.boundary.specs.declared.Bounds.{Bounds}
use Rattle.boundary.specs.Boxes.{DoubleBox, FieldValue}
use Rattle.boundary.specs.Outline.{count, vertex_at, edge_at, edges}
use Rattle.accept.specs.Answers.{Outcome, refused_with}
use Rattle.accept.proofs.TestLaws.{given_passed}
use Rattle.clip.specs.declared.HalfPlane.{HalfPlane}
use Rattle.clip.specs.Clip.{in_half_plane, clip_of, KeptWhole, KeepsAll}
use Rattle.clip.proofs.KeepsAllLaws.{outline_whole, whole_adds_none, whole_keeps_all}
use Rattle.fill.specs.Fill.{low_x_of, high_x_of, low_y_of, high_y_of, clip1, clip2, clip3, clip4, xdy_of, fill_of, long_of}
use Rattle.clip.specs.Lent.{half_of}
use Rattle.fill.specs.Answers.{fill_tested, filled, filled_outcome, fill_outcome}
use Rattle.fill.specs.Within.{WithinCell, AllHandOn}
use Rattle.fill.proofs.TestedLaws.{fill_passed, tested_numbers, tested_box}

-- ---- each clip of the outline's own edges
module _ (v : List Float) (c : Bounds) (room : ℕ) (held : Doubles v) (box : DoubleBox c) (passed : fill_tested v c room ≡ all_passed) (within : WithinCell v c) where
  -- a half-plane that has every vertex keeps every edge whole
  whole : (s : HalfPlane) → FieldValue s.v → ((i : ℕ) → i < count v → in_half_plane s (vertex_at v i) ≡ true) → Every (KeptWhole s) (edges v)
  whole s f h = outline_whole s v (record { numbers = tested_numbers v c room held passed; bound = f }) h

  whole_low_x : Every (KeptWhole (low_x_of c)) (edges v)
  unfolding in_half_plane
  whole_low_x = whole (low_x_of c) (tested_box v c room box passed).min.x (λ i l. is_true (le c.min.x (vertex_at v i).x) (within i l).x.low)

  whole_high_x : Every (KeptWhole (high_x_of c)) (edges v)
  unfolding in_half_plane
  whole_high_x = whole (high_x_of c) (tested_box v c room box passed).max.x (λ i l. is_true (le (vertex_at v i).x c.max.x) (within i l).x.high)

  whole_low_y : Every (KeptWhole (low_y_of c)) (edges v)
  unfolding in_half_plane
  whole_low_y = whole (low_y_of c) (tested_box v c room box passed).min.y (λ i l. is_true (le c.min.y (vertex_at v i).y) (within i l).y.low)

  whole_high_y : Every (KeptWhole (high_y_of c)) (edges v)
  unfolding in_half_plane
  whole_high_y = whole (high_y_of c) (tested_box v c room box passed).max.y (λ i l. is_true (le (vertex_at v i).y c.max.y) (within i l).y.high)

  -- the four lists are the outline's edges
  list1 : clip1 (edges v) c ≡ edges v
  list1 = whole_adds_none (low_x_of c) (edges v) whole_low_x

  list2 : clip2 (edges v) c ≡ edges v
  list2 = ap (clip_of (high_x_of c)) list1 ∙ whole_adds_none (high_x_of c) (edges v) whole_high_x

  list3 : clip3 (edges v) c ≡ edges v
  list3 = ap (clip_of (low_y_of c)) list2 ∙ whole_adds_none (low_y_of c) (edges v) whole_low_y

  -- THE LIST that is summed: the outline's edges
  pub within_list : clip4 (edges v) c ≡ edges v
  within_list = ap (clip_of (high_y_of c)) list3 ∙ whole_adds_none (high_y_of c) (edges v) whole_high_y

  -- EVERY CLIP keeps every line whole and adds none
  pub within_hands_on : AllHandOn (edges v) c
  within_hands_on = record {
    low_x = whole_keeps_all (low_x_of c) (edges v) whole_low_x;
    high_x = subst (KeepsAll (high_x_of c)) (sym list1) (whole_keeps_all (high_x_of c) (edges v) whole_high_x);
    low_y = subst (KeepsAll (low_y_of c)) (sym list2) (whole_keeps_all (low_y_of c) (edges v) whole_low_y);
    high_y = subst (KeepsAll (high_y_of c)) (sym list3) (whole_keeps_all (high_y_of c) (edges v) whole_high_y);
  }

  -- no list is longer than a half
  edges_short : ltb (half_of room) (length (edges v)) ≡ false
  unfolding edges
  edges_short = rw (length_run (edge_at v) 0 (count v)) (le-ltb (half_of room) (count v) (fill_passed v c room passed).enough)

  within_short : long_of (half_of room) (edges v) c ≡ false
  unfolding long_of
  within_short = rw (within_list, list3, list2, list1, edges_short)

  pub within_filled : filled (half_of room) (edges v) c ≡ Ok (total xdy_of (edges v))
  unfolding filled fill_of
  within_filled = rw (within_short, within_list)

-- THE FILL: the sum over the outline's edges, and no refusal 14
pub within_fill : (v : List Float) (c : Bounds) (w : List Float) → Doubles v → DoubleBox c → fill_tested v c (length w) ≡ all_passed → WithinCell v c
    → (fill_outcome v c w).answer ≡ Ok (total xdy_of (edges v))
unfolding fill_outcome
within_fill v c w held box passed within =
    let done = given_passed passed (filled_outcome v c w) (refused_with w) in
    ap (λ (o : Outcome (Answer Float) (List Float)). o.answer) done ∙ within_filled v c (length w) held box passed within
