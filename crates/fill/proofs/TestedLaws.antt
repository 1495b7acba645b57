-- What a call for the fill whose tests pass tells of its outline, its cell and its buffer. Assumes nothing.
use mathlib.Core.Path.{◌≡◌, sym, subst}
use mathlib.Core.Bool.{not}
use mathlib.Core.List.{List}
use Prim.Native.Nat.{ℕ, ◌≤◌}
use native.Mathlib.Omega.{arith}
use borrow.Author.Tests.{ltb-false, not-false}
use lib.Dec.{T, ltb}
use lib.Ieee.{Float}
use Rattle.number.specs.Exact.{Doubles}
use Rattle.boundary.specs.declared.Bounds.{Bounds}
use Rattle.boundary.specs.Boxes.{box_fits, DoubleBox, FieldBox}
use Rattle.boundary.specs.Outline.{count}
use Rattle.boundary.proofs.FieldLaws.{number_in_field, double_box_field}
use Rattle.accept.specs.declared.Refusal.TheVariants.{BadBox, ShortBuffer}
use Rattle.accept.specs.Refusals.{all_passed, ◌refusing◌when◌, outline_tested}
use Rattle.accept.proofs.TestLaws.{refusing_passed, accepted_field}
use Rattle.clip.specs.Bounded.{FieldNumbers}
use Rattle.clip.specs.Lent.{half_of}
use Rattle.fill.specs.Answers.{fill_tested}

-- the outline is accepted, the cell fits, and a half has room for the outline's edges
pub record FillPassed (v : List Float) (c : Bounds) (room : ℕ) : Type 0 where
  pub outline : outline_tested v ≡ all_passed
  pub cell : T (box_fits c)
  pub enough : count v ≤ half_of room

pub fill_passed : (v : List Float) (c : Bounds) (room : ℕ) → fill_tested v c room ≡ all_passed → FillPassed v c room
unfolding fill_tested
fill_passed v c room e =
    let t = outline_tested v refusing BadBox when not (box_fits c) in
    let short = refusing_passed t ShortBuffer (ltb (half_of room) (count v)) e in
    let box = refusing_passed (outline_tested v) BadBox (not (box_fits c)) short.0 in
    record { outline = box.0; cell = subst T (sym (not-false (box_fits c) box.1)) tt; enough = ltb-false (half_of room) (count v) short.1 }

-- the outline's numbers are in the field
pub tested_numbers : (v : List Float) (c : Bounds) (room : ℕ) → Doubles v → fill_tested v c room ≡ all_passed → FieldNumbers v
tested_numbers v c room d e i l =
    let none = (accepted_field v (fill_passed v c room e).outline).0 in
    record { fits = d.each i l; in_field = subst T (sym (number_in_field v none i l)) tt }

-- and so is the cell
pub tested_box : (v : List Float) (c : Bounds) (room : ℕ) → DoubleBox c → fill_tested v c room ≡ all_passed → FieldBox c
tested_box v c room d e = double_box_field d (fill_passed v c room e).cell

-- the outline has vertices
pub tested_some : (v : List Float) (c : Bounds) (room : ℕ) → fill_tested v c room ≡ all_passed → 1 ≤ count v
tested_some v c room e = let s = (accepted_field v (fill_passed v c room e).outline).1 in omega arith
