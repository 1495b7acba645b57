-- The box around two boxes is around both of them, and is in every box that is around both; boxes that are each around the other are the same but for the signs of zeros. Assumes nothing.
use mathlib.Core.Bool.{true, false, not}
use lib.Dec.{T}
use lib.Ieee.{Float, nan, inf, fin, binary64, lt, le, eq, is_nan, fits}
use Rattle.number.specs.Exact.{Held}
use Rattle.number.proofs.OrderLaws.{le_self, le_through, le_level, level_both, finite_between}
use Rattle.boundary.specs.declared.Bounds.{Bounds}
use Rattle.boundary.specs.Boxes.{BoxOf, FiniteBox, DoubleBox, Around, SameBox, hull, empty_box}
use Rattle.number.proofs.Basics.{one_of}
use Rattle.boundary.proofs.AlongLaws.{ends_between}

-- ---- boxes without NaN
abbrev pub NotNan : Float → Type 0
NotNan x = T (not (is_nan x))

abbrev pub NumberBox : Bounds → Type 0
NumberBox b = BoxOf NotNan b

-- ---- boxes around boxes
pub around_self : (b : Bounds) → NumberBox b → Around b b
around_self b B = record { left = le_self b.min.x B.min.x; right = le_self b.max.x B.max.x; bottom = le_self b.min.y B.min.y; top = le_self b.max.y B.max.y }

pub around_through : (a b c : Bounds) → Around a b → Around b c → Around a c
around_through a b c p q = record {
  left = le_through a.min.x b.min.x c.min.x p.left q.left;
  right = le_through c.max.x b.max.x a.max.x q.right p.right;
  bottom = le_through a.min.y b.min.y c.min.y p.bottom q.bottom;
  top = le_through c.max.y b.max.y a.max.y q.top p.top;
}

-- ---- boxes that are the same but for the signs of zeros: each is around the other
pub around_same : (a b : Bounds) → Around a b → Around b a → SameBox a b
around_same a b p q = record {
  left = le_level a.min.x b.min.x p.left q.left;
  bottom = le_level a.min.y b.min.y p.bottom q.bottom;
  right = le_level a.max.x b.max.x q.right p.right;
  top = le_level a.max.y b.max.y q.top p.top;
}

pub same_around : (a b : Bounds) → SameBox a b → Around a b × Around b a
same_around a b s =
    let left = level_both a.min.x b.min.x s.left in
    let bottom = level_both a.min.y b.min.y s.bottom in
    let right = level_both a.max.x b.max.x s.right in
    let top = level_both a.max.y b.max.y s.top in
    (record { left = left.0; right = right.1; bottom = bottom.0; top = top.1 }, record { left = left.1; right = right.0; bottom = bottom.1; top = top.0 })

pub same_self : (b : Bounds) → NumberBox b → SameBox b b
same_self b B = let s = around_self b B in around_same b b s s

pub same_back : (a b : Bounds) → SameBox a b → SameBox b a
same_back a b s = let p = same_around a b s in around_same b a p.1 p.0

pub same_through : (a b c : Bounds) → SameBox a b → SameBox b c → SameBox a c
same_through a b c s t =
    let p = same_around a b s in
    let q = same_around b c t in
    around_same a c (around_through a b c p.0 q.0) (around_through c b a q.1 p.1)

-- a box of `f64`s is finite where one that is the same is
pub same_finite : (a b : Bounds) → SameBox a b → FiniteBox b → DoubleBox a → FiniteBox a
same_finite a b s B D = record {
  min = record { x = held s.left B.min.x D.min.x; y = held s.bottom B.min.y D.min.y };
  max = record { x = held s.right B.max.x D.max.x; y = held s.top B.max.y D.max.y };
}
  where
    held : {x y : Float} → T (eq x y) → Held y → T (fits binary64 x) → Held x
    held {x} {y} e h F = let l = level_both x y e in record { fits = F; finite = finite_between y x y h.finite h.finite l.1 l.0 }

-- ---- the box around two boxes
module _ (a b : Bounds) (A : NumberBox a) (B : NumberBox b) where
  pub hull_number : NumberBox (hull a b)
  unfolding hull
  hull_number = record {
    min = record { x = one_of NotNan (lt b.min.x a.min.x) B.min.x A.min.x; y = one_of NotNan (lt b.min.y a.min.y) B.min.y A.min.y };
    max = record { x = one_of NotNan (lt a.max.x b.max.x) B.max.x A.max.x; y = one_of NotNan (lt a.max.y b.max.y) B.max.y A.max.y };
  }

  pub hull_around : Around (hull a b) a × Around (hull a b) b
  unfolding hull
  hull_around =
      let left = ends_between a.min.x b.min.x A.min.x B.min.x in
      let right = ends_between a.max.x b.max.x A.max.x B.max.x in
      let bottom = ends_between a.min.y b.min.y A.min.y B.min.y in
      let top = ends_between a.max.y b.max.y A.max.y B.max.y in
      (record { left = left.0.low; right = right.0.high; bottom = bottom.0.low; top = top.0.high }, record { left = left.1.low; right = right.1.high; bottom = bottom.1.low; top = top.1.high })

-- what is around two boxes is around the box around them
pub hull_within : (n a b : Bounds) → Around n a → Around n b → Around n (hull a b)
unfolding hull
hull_within n a b p q = record {
  left = one_of (λ x. T (le n.min.x x)) (lt b.min.x a.min.x) q.left p.left;
  right = one_of (λ x. T (le x n.max.x)) (lt a.max.x b.max.x) q.right p.right;
  bottom = one_of (λ x. T (le n.min.y x)) (lt b.min.y a.min.y) q.bottom p.bottom;
  top = one_of (λ x. T (le x n.max.y)) (lt a.max.y b.max.y) q.top p.top;
}

most : (x : Float) → NotNan x → T (le x (inf false))
unfolding le lt is_nan
most nan n = absurd n
most (inf true) n = tt
most (inf false) n = tt
most (fin s m e) n = tt

pub least : (x : Float) → NotNan x → T (le (inf true) x)
unfolding le lt is_nan
least nan n = absurd n
least (inf true) n = tt
least (inf false) n = tt
least (fin s m e) n = tt

pub around_empty : (n : Bounds) → NumberBox n → Around n empty_box
around_empty n N = record { left = most n.min.x N.min.x; right = least n.max.x N.max.x; bottom = most n.min.y N.min.y; top = least n.max.y N.max.y }

pub empty_number : NumberBox empty_box
unfolding is_nan
empty_number = record { min = record { x = tt; y = tt }; max = record { x = tt; y = tt } }

pub empty_double : DoubleBox empty_box
unfolding fits
empty_double = record { min = record { x = tt; y = tt }; max = record { x = tt; y = tt } }
