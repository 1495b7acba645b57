-- The items as a split leaves them: those of a leaf ascend, and of more than four each half does. Assumes nothing.
use mathlib.Core.Path.{◌≡◌, ap, ◌∙◌}
use mathlib.Core.List.{List, ◌++◌}
use Prim.Native.Nat.{ℕ, ◌-◌, ◌/◌, ◌≤◌, ◌<◌}
use native.Mathlib.Omega.{arith}
use lib.Dec.{leb}
use lib.ListN.{length, take, drop, length-append}
use lib.Seq.{length-take-le, take_at, drop_at}
use borrow.Author.Tests.{lt-ltb, le-ltb}
use Rattle.boundary.specs.declared.Point.{Point}
use Rattle.sorts.specs.Sort.{sort, Sorted, halves}
use Rattle.sorts.specs.Keys.{precedes}
use Rattle.sorts.proofs.Lists.{rest_of}
use Rattle.sorts.proofs.SortLaws.{length_sort}
use Rattle.sorts.proofs.PartLaws.{ascending}
use Rattle.tree.specs.Tree.{along_y, centre_along, ordered, arranged}
use Rattle.tree.proofs.TreeLaws.{left, right, length_left, length_right}

module _ (C : ℕ → Point) (is : List ℕ) where
  pub arranged_leaf : length is ≤ 4 → arranged C is ≡ sort leb is
  unfolding arranged
  arranged_leaf h = rw (le-ltb 4 (length is) h)

  pub arranged_inner : 4 < length is → arranged C is ≡ halves (precedes (centre_along (along_y C is) C)) (length is / 2) is
  unfolding arranged
  arranged_inner h = rw (lt-ltb 4 (length is) h)

  -- the halves of what is split, each ascending
  module _ (is₁ : List ℕ) (e : is₁ ≡ arranged C is) (h : 4 < length is) where
    arranged_parts : is₁ ≡ sort leb (left C is) ++ sort leb (right C is)
    unfolding halves ordered
    arranged_parts = e ∙ arranged_inner h

    first_long : length (sort leb (left C is)) ≡ length is / 2
    first_long = length_sort leb (left C is) ∙ length_left C is

    pub first_half : take (length is / 2) is₁ ≡ sort leb (left C is)
    first_half = rw arranged_parts (take_at (sort leb (left C is)) (sort leb (right C is)) (length is / 2) first_long)

    pub second_half : drop (length is / 2) is₁ ≡ sort leb (right C is)
    second_half = rw arranged_parts (drop_at (sort leb (left C is)) (sort leb (right C is)) (length is / 2) first_long)

    pub length_arranged : length is₁ ≡ length is
    length_arranged = ap length arranged_parts ∙ length-append (sort leb (left C is)) (sort leb (right C is)) ∙ (let a = first_long in let b = length_sort leb (right C is) in let c = length_right C is in omega arith)

    pub first_ascends : Sorted leb (take (length is / 2) is₁)
    first_ascends = rw first_half (ascending (left C is))

    pub second_ascends : (Y : List ℕ) → length Y ≡ length (take (length is / 2) is₁) → Sorted leb (take (length (Y ++ drop (length is / 2) is₁) - length is / 2) (drop (length is / 2) (Y ++ drop (length is / 2) is₁)))
    second_ascends Y y =
        let k = length_arranged in
        let a : length Y ≡ length is / 2 = y ∙ length-take-le (length is / 2) is₁ (omega arith) in
        rw (rest_of is₁ Y (length is / 2) a (omega arith), second_half) (ascending (right C is))
