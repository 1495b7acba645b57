-- IEEE 754's minimum and maximum, by which the Rust works out boxes, are the lesser and the greater but for the signs of zeros,
-- and the box around boxes is the same but for them. Assumes nothing.
use mathlib.Core.Path.{◌≡◌}
use mathlib.Core.Bool.{Bool, true, false, cond}
use mathlib.Core.List.{List, [], ◌∷◌}
use lib.Dec.{T}
use lib.Ieee.{Float, lt, eq}
use Rattle.number.specs.Signs.{min_of, max_of}
use Rattle.number.proofs.OrderLaws.{level_both, level_through, lt_level, right_not_nan}
use Rattle.number.proofs.MagnitudeOrder.{min_one_of, max_one_of, min_is_lesser, max_is_greater}
use Rattle.lists.specs.Lists.{fold, Every}
use Rattle.boundary.specs.declared.Bounds.{Bounds}
use Rattle.boundary.specs.Boxes.{BoxOf, SameBox, lesser, greater, hull, hull_ieee}
use Rattle.boundary.proofs.AroundLaws.{NotNan, NumberBox, same_self}

-- ---- of two numbers
pub lesser_is_min : (a b : Float) → NotNan a → NotNan b → T (eq (lesser a b) (min_of a b))
lesser_is_min a b A B = min_is_lesser a b A B

pub greater_is_max : (a b : Float) → NotNan a → NotNan b → T (eq (greater a b) (max_of a b))
greater_is_max a b A B = max_is_greater a b A B

-- ---- of numbers that are level with them
module _ (a b c d : Float) (h : T (eq a c)) (k : T (eq b d)) where
  -- the same is picked of both pairs
  picked : (t u : Bool) → t ≡ u → T (eq (cond t b a) (cond u d c))
  picked t u e = rw e (go u)
    where
      go : (u : Bool) → T (eq (cond u b a) (cond u d c))
      go true = k
      go false = h

  lesser_level : T (eq (lesser a b) (min_of c d))
  lesser_level =
      let p = level_both a c h in
      let q = level_both b d k in
      level_through (lesser a b) (lesser c d) (min_of c d) (picked (lt b a) (lt d c) (lt_level b d a c q.0 q.1 p.0 p.1))
      (lesser_is_min c d (right_not_nan a c p.0) (right_not_nan b d q.0))

  greater_level : T (eq (greater a b) (max_of c d))
  greater_level =
      let p = level_both a c h in
      let q = level_both b d k in
      level_through (greater a b) (greater c d) (max_of c d) (picked (lt a b) (lt c d) (lt_level a c b d p.0 p.1 q.0 q.1))
      (greater_is_max c d (right_not_nan a c p.0) (right_not_nan b d q.0))

-- ---- of boxes
-- boxes that are the same have no NaN, so that nothing more is asked of them
pub same_hull : (a b c d : Bounds) → SameBox a c → SameBox b d → SameBox (hull a b) (hull_ieee c d)
unfolding hull hull_ieee
same_hull a b c d s t = record {
  left = lesser_level a.min.x b.min.x c.min.x d.min.x s.left t.left;
  bottom = lesser_level a.min.y b.min.y c.min.y d.min.y s.bottom t.bottom;
  right = greater_level a.max.x b.max.x c.max.x d.max.x s.right t.right;
  top = greater_level a.max.y b.max.y c.max.y d.max.y s.top t.top;
}

-- its corner numbers are those of the two
pub hull_ieee_of : (P : Float → Type 0) {a b : Bounds} → BoxOf P a → BoxOf P b → BoxOf P (hull_ieee a b)
unfolding hull_ieee
hull_ieee_of P A B = record {
  min = record { x = min_one_of P A.min.x B.min.x; y = min_one_of P A.min.y B.min.y };
  max = record { x = max_one_of P A.max.x B.max.x; y = max_one_of P A.max.y B.max.y };
}

-- ---- of the members of a list, W giving each one's box
module _ {A : Type 0} (W : A → Bounds) where
  pub same_fold : (xs : List A) (b c : Bounds) → Every (λ x. NumberBox (W x)) xs → SameBox b c
      → SameBox (fold (λ b x. hull b (W x)) b xs) (fold (λ b x. hull_ieee b (W x)) c xs)
  unfolding fold Every
  same_fold [] b c N s = s
  same_fold (x ∷ xs) b c N s = same_fold xs (hull b (W x)) (hull_ieee c (W x)) N.1 (same_hull b (W x) c (W x) s (same_self (W x) N.0))

  pub fold_ieee_of : (P : Float → Type 0) (xs : List A) (b : Bounds) → Every (λ x. BoxOf P (W x)) xs → BoxOf P b
      → BoxOf P (fold (λ b x. hull_ieee b (W x)) b xs)
  unfolding fold Every
  fold_ieee_of P [] b E B = B
  fold_ieee_of P (x ∷ xs) b E B = fold_ieee_of P xs (hull_ieee b (W x)) E.1 (hull_ieee_of P B E.0)
