-- In which order a node's entries are gone through, and whether by IEEE 754's minimum and maximum or by the lesser and the greater,
-- shows in the sign of a zero at most: the box around them is the same but for it, and the axis is the same. Assumes nothing.
use mathlib.Core.Path.{◌≡◌}
use mathlib.Core.List.{List}
use Prim.Native.Nat.{ℕ, ◌<◌}
use lib.Dec.{T}
use lib.ListN.{length}
use lib.Ieee.{Float, binary64, sub, lt, le, eq, fits}
use Rattle.number.specs.Exact.{Held}
use Rattle.number.proofs.Monotone.{sub_mono}
use Rattle.number.proofs.OrderLaws.{level_both, lt_level}
use Rattle.number.proofs.Values.{held_not_nan}
use Rattle.boundary.specs.declared.Point.{Point}
use Rattle.boundary.specs.declared.Bounds.{Bounds}
use Rattle.boundary.specs.Boxes.{PointOf, BoxOf, FiniteBox, SameBox, hull, hull_ieee, empty_box, point_box}
use Rattle.boundary.proofs.AroundLaws.{NotNan, NumberBox, around_empty, empty_number, empty_double, around_same, same_self, same_back, same_through, same_finite}
use Rattle.boundary.proofs.MinMaxLaws.{same_fold, fold_ieee_of}
use Rattle.lists.specs.Lists.{In}
use Rattle.lists.proofs.MemberLaws.{every_in}
use Rattle.tree.specs.Tree.{hull_by, hull_of, spread_of, along_y_by, along_y}
use Rattle.tree.proofs.HullLaws.{folded, fold_within, hull_of_number, hull_of_around, hull_of_within, hull_of_finite}

module _ (W : ℕ → Bounds) (is : List ℕ) (N : (i : ℕ) → In i is → NumberBox (W i)) where
  -- as the entries stand and in the order of their numbers: each of the two boxes is around the other
  order_same : SameBox (hull_by hull W is) (hull_of W is)
  order_same =
      let f = folded W is empty_box empty_number N in
      around_same (hull_by hull W is) (hull_of W is) (hull_of_within W (hull_by hull W is) f.number is f.each)
      (fold_within W (hull_of W is) is empty_box (around_empty (hull_of W is) (hull_of_number W is N)) (hull_of_around W is N))

  pub hull_same : SameBox (hull_by hull_ieee W is) (hull_of W is)
  hull_same =
      let s = same_fold W is empty_box empty_box (every_in (λ i. NumberBox (W i)) is N) (same_self empty_box empty_number) in
      same_through (hull_by hull_ieee W is) (hull_by hull W is) (hull_of W is) (same_back (hull_by hull W is) (hull_by hull_ieee W is) s) order_same

-- of one axis: the widths are level
width_level : {lo lo' hi hi' : Float} → Held lo → Held lo' → Held hi → Held hi' → T (eq lo lo') → T (eq hi hi')
    → T (le (sub binary64 hi lo) (sub binary64 hi' lo')) × T (le (sub binary64 hi' lo') (sub binary64 hi lo))
width_level {lo} {lo'} {hi} {hi'} L L' H H' p q =
    let l = level_both lo lo' p in
    let h = level_both hi hi' q in
    (sub_mono H H' L L' h.0 l.1, sub_mono H' H L' L h.1 l.0)

-- boxes that are the same but for the signs of zeros are wider along the same axis
wider_same : (a b : Bounds) → SameBox a b → FiniteBox a → FiniteBox b
    → lt (sub binary64 a.max.x a.min.x) (sub binary64 a.max.y a.min.y) ≡ lt (sub binary64 b.max.x b.min.x) (sub binary64 b.max.y b.min.y)
wider_same a b s A B =
    let x = width_level A.min.x B.min.x A.max.x B.max.x s.left s.right in
    let y = width_level A.min.y B.min.y A.max.y B.max.y s.bottom s.top in
    lt_level _ _ _ _ x.0 x.1 y.0 y.1

-- what holds of every finite number holds of the corners of a finite point's box
spot_of : (P : Float → Type 0) → ((x : Float) → Held x → P x) → (p : Point) → PointOf Held p → BoxOf P (point_box p)
spot_of P f p H = let both : PointOf P p = record { x = f p.x H.x; y = f p.y H.y } in record { min = both; max = both }

-- of entries with finite centres
pub axis_same : (C : ℕ → Point) (is : List ℕ) → 0 < length is → ((i : ℕ) → In i is → PointOf Held (C i)) → along_y_by hull_ieee C is ≡ along_y C is
unfolding along_y spread_of hull_of
axis_same C is l H =
    let W : ℕ → Bounds = λ i. point_box (C i) in
    let Fits : Float → Type 0 = λ x. T (fits binary64 x) in
    let s = hull_same W is (λ i k. spot_of NotNan (λ x h. held_not_nan h) (C i) (H i k)) in
    let U = hull_of_finite W is l (λ i k. spot_of Held (λ x h. h) (C i) (H i k)) in
    let E = every_in (λ i. BoxOf Fits (W i)) is (λ i k. spot_of Fits (λ x h. h.fits) (C i) (H i k)) in
    let S = same_finite (hull_by hull_ieee W is) (hull_of W is) s U (fold_ieee_of W Fits is empty_box E empty_double) in
    wider_same (hull_by hull_ieee W is) (hull_of W is) s S U
