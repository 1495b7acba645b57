-- The box around items' boxes is around each of them, is in every box that is around all of them, and is finite where they are. Assumes nothing.
use mathlib.Core.Path.{◌≡◌, refl}
use mathlib.Core.Bool.{true, false}
use mathlib.Core.List.{List, [], ◌∷◌}
use Prim.Native.Nat.{ℕ, ◌<◌}
use native.Mathlib.Omega.{arith}
use lib.Dec.{T, leb}
use lib.ListN.{length}
use lib.Ieee.{Float, nan, inf, fin, lt}
use lib.Ieee.Scale.{finite}
use Rattle.number.specs.Exact.{Held}
use Rattle.number.proofs.Basics.{one_of}
use Rattle.boundary.specs.declared.Bounds.{Bounds}
use Rattle.boundary.specs.Boxes.{FiniteBox, Around, hull, empty_box}
use Rattle.boundary.proofs.AroundLaws.{NumberBox, around_self, around_through, hull_number, hull_around, hull_within, around_empty, empty_number}
use Rattle.lists.specs.Lists.{fold, times, In}
use Rattle.lists.proofs.MemberLaws.{in_cons, in_first, in_rest}
use Rattle.sorts.specs.Sort.{sort}
use Rattle.sorts.proofs.SortLaws.{length_sort, times_sort}
use Rattle.tree.specs.Tree.{hull_by, hull_of}

-- ---- the box around the items' boxes
module _ (W : ℕ → Bounds) where
  abbrev pub hull_step : Bounds → ℕ → Bounds
  hull_step b i = hull b (W i)

  pub record Folded (b : Bounds) (is : List ℕ) (h : Bounds) : Type 0 where
    pub number : NumberBox h
    pub start : Around h b
    pub each : (i : ℕ) → In i is → Around h (W i)

  pub folded : (is : List ℕ) (b : Bounds) → NumberBox b → ((i : ℕ) → In i is → NumberBox (W i)) → Folded b is (fold hull_step b is)
  unfolding fold times
  folded [] b B N = record { number = B; start = around_self b B; each = λ i h. absurd (omega arith) }
  folded (x ∷ xs) b B N =
      let X = N x (in_first x xs) in
      let two = hull_around b (W x) B X in
      let f = folded xs (hull b (W x)) (hull_number b (W x) B X) (λ i h. N i (in_rest i x xs h)) in
      let h = fold hull_step (hull b (W x)) xs in
      record {
        number = f.number;
        start = around_through h (hull b (W x)) b f.start two.0;
        each = in_cons (λ i. Around h (W i)) x xs (around_through h (hull b (W x)) (W x) f.start two.1) f.each;
      }

  module _ (is : List ℕ) (N : (i : ℕ) → In i is → NumberBox (W i)) where
    pub hull_of_number : NumberBox (hull_of W is)
    unfolding hull_of
    hull_of_number = (folded (sort leb is) empty_box empty_number (λ i h. N i (rw (times_sort leb i is) at h))).number

    -- it is around each
    pub hull_of_around : (i : ℕ) → In i is → Around (hull_of W is) (W i)
    unfolding hull_of
    hull_of_around i h = (folded (sort leb is) empty_box empty_number (λ i h. N i (rw (times_sort leb i is) at h))).each i (rw (times_sort leb i is) h)

  pub fold_within : (n : Bounds) (is : List ℕ) (b : Bounds) → Around n b → ((i : ℕ) → In i is → Around n (W i)) → Around n (fold hull_step b is)
  unfolding fold
  fold_within n [] b p q = p
  fold_within n (x ∷ xs) b p q = fold_within n xs (hull b (W x)) (hull_within n b (W x) p (q x (in_first x xs))) (λ i h. q i (in_rest i x xs h))

  -- what is around each is around it
  pub hull_of_within : (n : Bounds) → NumberBox n → (is : List ℕ) → ((i : ℕ) → In i is → Around n (W i)) → Around n (hull_of W is)
  unfolding hull_of
  hull_of_within n N is q = fold_within n (sort leb is) empty_box (around_empty n N) (λ i h. q i (rw (times_sort leb i is) at h))

-- ---- the box around finite boxes is finite
above_low : (x : Float) → T (finite x) → lt (inf true) x ≡ true
unfolding lt
above_low nan h = absurd h
above_low (inf s) h = absurd h
above_low (fin s m e) h = refl

below_high : (x : Float) → T (finite x) → lt x (inf false) ≡ true
unfolding lt
below_high nan h = absurd h
below_high (inf s) h = absurd h
below_high (fin s m e) h = refl

hull_first : (b : Bounds) → FiniteBox b → hull empty_box b ≡ b
unfolding hull
hull_first b B = rw (below_high b.min.x B.min.x.finite, below_high b.min.y B.min.y.finite, above_low b.max.x B.max.x.finite, above_low b.max.y B.max.y.finite)

hull_finite : (a b : Bounds) → FiniteBox a → FiniteBox b → FiniteBox (hull a b)
unfolding hull
hull_finite a b A B = record {
  min = record { x = one_of Held (lt b.min.x a.min.x) B.min.x A.min.x; y = one_of Held (lt b.min.y a.min.y) B.min.y A.min.y };
  max = record { x = one_of Held (lt a.max.x b.max.x) B.max.x A.max.x; y = one_of Held (lt a.max.y b.max.y) B.max.y A.max.y };
}

module _ (W : ℕ → Bounds) where
  fold_finite : (is : List ℕ) (b : Bounds) → FiniteBox b → ((i : ℕ) → In i is → FiniteBox (W i)) → FiniteBox (fold (λ b i. hull b (W i)) b is)
  unfolding fold
  fold_finite [] b B F = B
  fold_finite (x ∷ xs) b B F = fold_finite xs (hull b (W x)) (hull_finite b (W x) B (F x (in_first x xs))) (λ i h. F i (in_rest i x xs h))

  pub list_finite : (is : List ℕ) → 0 < length is → ((i : ℕ) → In i is → FiniteBox (W i)) → FiniteBox (hull_by hull W is)
  unfolding fold
  list_finite [] l F = absurd (omega arith)
  list_finite (x ∷ xs) l F = let X = F x (in_first x xs) in rw (hull_first (W x) X) (fold_finite xs (W x) X (λ i h. F i (in_rest i x xs h)))

  pub hull_of_finite : (is : List ℕ) → 0 < length is → ((i : ℕ) → In i is → FiniteBox (W i)) → FiniteBox (hull_of W is)
  unfolding hull_of
  hull_of_finite is l F = list_finite (sort leb is) (rw (length_sort leb is) l) (λ i h. F i (rw (times_sort leb i is) at h))
