-- Vertices in a cell, row after row. Assumes nothing.
use mathlib.Core.Path.{◌≡◌, refl, sym, subst}
use mathlib.Core.Bool.{Bool, true, false, ◌&&◌}
use Prim.Native.Nat.{ℕ, ◌+◌, ◌-◌, ◌<◌}
use native.Mathlib.Omega.{arith}
use borrow.Author.Tests.{ltb-true, ltb-false}
use lib.Dec.{T, ltb}
use lib.Ieee.{le}
use Rattle.lists.proofs.FoldLaws.{and_both}
use Rattle.boundary.specs.declared.Point.{Point}
use Rattle.boundary.specs.declared.Bounds.{Bounds}
use Rattle.boundary.specs.Boxes.{Inside}

-- what holds of every number below i, and of the eight from i on
pub eight_more : (P : ℕ → Type 0) (i : ℕ) → ((j : ℕ) → j < i → P j) → ((j : ℕ) → j < 8 → P (i + j)) → (j : ℕ) → j < i + 8 → P j
eight_more P i h g j l = by (ltb j i) refl
  where
    by : (b : Bool) → ltb j i ≡ b → P j
    by true e = h j (ltb-true j i e)
    by false e =
        let k = ltb-false j i e in
        let f : i + (j - i) ≡ j = omega arith in
        rw f at (g (j - i) (omega arith))

-- the four comparisons that put a point in a cell
pub compared_inside : (p : Point) (c : Bounds) → ((le c.min.x p.x && le p.x c.max.x) && (le c.min.y p.y && le p.y c.max.y)) ≡ true → Inside p c
compared_inside p c e =
    let a = le c.min.x p.x in
    let b = le p.x c.max.x in
    let f = le c.min.y p.y in
    let g = le p.y c.max.y in
    let k = and_both (a && b) (f && g) e in
    let x = and_both a b k.0 in
    let y = and_both f g k.1 in
    record { x = record { low = holds a x.0; high = holds b x.1 }; y = record { low = holds f y.0; high = holds g y.1 } }
  where
    holds : (b : Bool) → b ≡ true → T b
    holds b e = subst T (sym e) tt
