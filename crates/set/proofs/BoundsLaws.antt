-- The box of vertices that are all in the field: its corners are numbers of theirs, and no minimum is above its maximum. Assumes nothing.
use mathlib.Core.Path.{◌≡◌}
use mathlib.Core.Bool.{not, true, false}
use mathlib.Core.List.{List}
use Prim.Native.Nat.{ℕ, zero, suc, ◌+◌, ◌*◌, ◌<◌}
use native.Mathlib.Omega.{arith}
use lib.Dec.{T}
use lib.ListN.{length, get_or}
use lib.Ieee.{Float, nan, inf, fin, lt, le, neg, is_nan}
use lib.Ieee.Bits.{is_true}
use lib.Ieee.Fits.{and_i}
use Rattle.number.proofs.OrderLaws.{le_self, le_through}
use Rattle.boundary.specs.declared.Point.{Point}
use Rattle.boundary.specs.declared.Bounds.{Bounds}
use Rattle.boundary.specs.Boxes.{PointOf, BoxOf, is_in_field, lesser, greater, hull, empty_box, stretched}
use Rattle.lists.specs.Lists.{run, fold}
use Rattle.boundary.specs.Outline.{count, vertex_at, vertices}
use Rattle.number.proofs.Basics.{one_of}
use Rattle.boundary.proofs.FieldLaws.{in_field_number}
use Rattle.boundary.proofs.AlongLaws.{ends_between}
use Rattle.geometry.specs.Polygon.{bounds_of}
use Rattle.boundary.specs.Boxes.{box_fits}

abbrev pub InField : Float → Type 0
InField x = T (is_in_field x)

-- P holds of numbers of the field only
module _ (P : Float → Type 0) (field : (x : Float) → P x → InField x) where
  -- of one axis
  pub record Span (lo hi : Float) : Type 0 where
    pub low : P lo
    pub high : P hi
    pub order : T (le lo hi)

  number : {x : Float} → P x → T (not (is_nan x))
  number {x} p = in_field_number x (field x p)

  -- the first number
  span_first : (q : Float) → P q → Span (lesser (inf false) q) (greater (inf true) q)
  unfolding lt le neg is_nan
  span_first q p = go q p (field q p)
    where
      go : (q : Float) → P q → InField q → Span (lesser (inf false) q) (greater (inf true) q)
      go nan p f = absurd f
      go (inf true) p f = absurd f
      go (inf false) p f = absurd f
      go (fin s m e) p f = record { low = p; high = p; order = le_self (fin s m e) tt }

  span_more : (lo hi q : Float) → Span lo hi → P q → Span (lesser lo q) (greater hi q)
  span_more lo hi q s p =
      let a = ends_between lo q (number s.low) (number p) in
      let b = ends_between hi q (number s.high) (number p) in
      record {
        low = one_of P (lt q lo) p s.low;
        high = one_of P (lt hi q) p s.high;
        order = le_through (lesser lo q) q (greater hi q) a.1.low b.1.high;
      }

  pub record Spanned (b : Bounds) : Type 0 where
    pub x : Span b.min.x b.max.x
    pub y : Span b.min.y b.max.y

  spanned_more : (b : Bounds) (p : Point) → Spanned b → PointOf P p → Spanned (stretched b p)
  unfolding hull
  spanned_more b p s h = record { x = span_more b.min.x b.max.x p.x s.x h.x; y = span_more b.min.y b.max.y p.y s.y h.y }

  spanned_run : (g : ℕ → Point) (i k : ℕ) (b : Bounds) → Spanned b → ((j : ℕ) → j < i + k → PointOf P (g j)) → Spanned (fold stretched b (run g i k))
  unfolding run fold
  spanned_run g i zero b s h = s
  spanned_run g i (suc k) b s h = spanned_run g (suc i) k (stretched b (g i)) (spanned_more b (g i) s (h i (omega arith))) (λ j l. h j (omega arith))

  spanned_all : (g : ℕ → Point) (n : ℕ) → 0 < n → ((j : ℕ) → j < n → PointOf P (g j)) → Spanned (fold stretched empty_box (run g 0 n))
  unfolding run fold hull
  spanned_all g zero l h = absurd (omega arith)
  spanned_all g (suc n) l h =
      let p = h 0 (omega arith) in
      spanned_run g 1 n (stretched empty_box (g 0)) (record { x = span_first (g 0).x p.x; y = span_first (g 0).y p.y }) (λ j m. h j (omega arith))

  -- the box of an outline
  pub bounds_spanned : (o : List Float) → 0 < count o → ((i : ℕ) → i < length o → P (get_or o i nan)) → Spanned (bounds_of (vertices o))
  unfolding bounds_of vertices
  bounds_spanned o l h = spanned_all (vertex_at o) (count o) l (λ j m. record { x = h (2 * j) (omega arith); y = h (2 * j + 1) (omega arith) })

  pub spanned_box : (b : Bounds) → Spanned b → BoxOf P b
  spanned_box b s = record { min = record { x = s.x.low; y = s.y.low }; max = record { x = s.x.high; y = s.y.high } }

  -- it passes test 11
  pub spanned_fits : (b : Bounds) → Spanned b → box_fits b ≡ true
  unfolding box_fits
  spanned_fits b s =
      is_true (box_fits b)
      (and_i (is_in_field b.min.x) _ (field b.min.x s.x.low)
      (and_i (is_in_field b.min.y) _ (field b.min.y s.y.low)
      (and_i (is_in_field b.max.x) _ (field b.max.x s.x.high)
      (and_i (is_in_field b.max.y) _ (field b.max.y s.y.high)
      (and_i (le b.min.x b.max.x) (le b.min.y b.max.y) s.x.order s.y.order)))))
