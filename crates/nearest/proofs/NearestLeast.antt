-- What the *nearest answer* is, of every set of `f64`s that passes the tests: the least magnitude, with the lowest number among the outlines that have it, and 'none' over an empty set only. Assumes nothing.
use Rattle.std.proofs.Common.{Option, None, Some, Ok}
use mathlib.Core.Path.{◌≡◌, refl}
use mathlib.Core.Bool.{Bool, true, false, cond}
use mathlib.Core.List.{List}
use Prim.Native.Nat.{ℕ, ◌<◌}
use native.Mathlib.Omega.{arith}
use borrow.Author.Tests.{eqb-true, ne_eqb}
use lib.Dec.{eqb}
use lib.ListN.{length}
use lib.Ieee.{eq}
use Rattle.number.proofs.OrderLaws.{le_not_below, level_le}
use Rattle.boundary.specs.declared.Point.{Point}
use Rattle.boundary.specs.Boxes.{FieldPoint}
use Rattle.set.specs.Set.{Outline, Fitting, DoubleSet}
use Rattle.search.specs.declared.Best.{Best}
use Rattle.search.specs.Least.{magnitude_at, least_in}
use Rattle.search.proofs.LeastLaws.{Upto, LeastOutline, least_of_lem}
use Rattle.search.proofs.GapLaws.{magnitude_number}
use Rattle.nearest.specs.Nearest.{nearest_in, NearestIs, nearest_fields}

module _ (os : List Outline) (p : Point) where
  differs : (b : Best) (k : ℕ) → Upto (magnitude_at os p) b k → k < b.outline → (t : Bool) → eq (magnitude_at os p k) b.distance ≡ t → t ≡ false
  differs b k u l true e = let h = u.first (level_le (magnitude_at os p k) b.distance e) in absurd (omega arith)
  differs b k u l false e = refl

  -- the least of the magnitudes is the nearest
  pub least_is : (b : Best) → LeastOutline (magnitude_at os p) (length os) b → NearestIs os p b
  least_is b h = record {
    within = h.within;
    is = h.is;
    least = λ k l. le_not_below (magnitude_at os p k) b.distance (h.upto k l).least;
    first = λ k l. let w = h.within in differs b k (h.upto k (omega arith)) l (eq (magnitude_at os p k) b.distance) refl;
  }

  -- NEAREST: the answer where there is an outline
  pub nearest_least : Fitting os → DoubleSet os → FieldPoint p → (length os ≡ 0 → ⊥) → (b : Best) × (nearest_in os p ≡ Some b) × NearestIs os p b
  unfolding nearest_in
  nearest_least fit held P some = (
    least_in os p,
    rw (ne_eqb (length os) 0 some),
    least_is (least_in os p) (least_of_lem (magnitude_at os p) (length os) (above (length os) some) (λ k l. magnitude_number os fit held p P k (omega arith))),
  )
    where
      above : (n : ℕ) → (n ≡ 0 → ⊥) → 0 < n
      above n h = omega arith

  -- NONE: over an empty set only
  pub nearest_none : nearest_in os p ≡ None → length os ≡ 0
  unfolding nearest_in
  nearest_none = go (eqb (length os) 0) refl
    where
      go : (t : Bool) → eqb (length os) 0 ≡ t → ◌≡◌ {A = Option Best} (cond t None (Some (least_in os p))) None → length os ≡ 0
      go true e h = eqb-true (length os) 0 e
      go false e h = let z : ◌≡◌ {A = ℕ} 0 1 = cc in absurd (omega arith)

-- the nearest answer over a set that has an outline is the best of its outlines
pub answer_best : (os : List Outline) (p : Point) → 0 < length os
    → nearest_fields (Ok (nearest_in os p)) ≡ record { number = 0; found = 1; outline = (least_in os p).outline; distance = (least_in os p).distance }
unfolding nearest_in
answer_best os p some = rw (ne_eqb (length os) 0 (λ z. omega arith))
