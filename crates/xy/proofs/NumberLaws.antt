-- The numbers of an outline as an XY record holds it: where they stand, and where no step is beyond the reach they are on the grid. Assumes nothing.
use mathlib.Core.Path.{◌≡◌, refl, sym, ap, ◌∙◌, subst}
use mathlib.Core.Bool.{true, false}
use mathlib.Core.List.{List, [], ◌∷◌}
use Prim.Native.Nat.{ℕ, suc, ◌+◌, ◌*◌, ◌-◌, ◌^◌, ◌≤◌, ◌<◌}
use native.Mathlib.Nat.{le_trans}
use native.Mathlib.Omega.{arith}
use borrow.Author.Tests.{ltb-false, le-leb, lt-ltb}
use lib.Dec.{T, lit≤}
use lib.IntN.{ℤ, pos, negsuc, nat_abs}
use lib.ListN.{length, take, drop, get_or}
use lib.Ieee.{Float, nan, fin, binary64, of_int, in_float}
use Rattle.algebra.specs.Int.{one-*ℤ}
use Rattle.number.specs.Exact.{Is}
use Rattle.number.specs.Rounding.{Rounds}
use Rattle.number.proofs.Operations.{equation→is, div_rounds}
use Rattle.number.proofs.RoundingLaws.{rounds_exact}
use Rattle.lists.specs.Lists.{run, Every, Each}
use Rattle.lists.specs.Lists.Each.{none, more}
use Rattle.lists.proofs.RunLaws.{run_at, length_run, run_split, take_run, map_run}
use Rattle.lists.proofs.FoldLaws.{every_fails, any_at_lem, any_append, or_none}
use Rattle.boundary.specs.Outline.{count, vertex_at}
use Rattle.grid.specs.Grid.{OnGrid, OutlineOn}
use Rattle.stream.specs.Bytes.{steps_in, step_at}
use Rattle.stream.specs.Records.{far_step, any_far}
use Rattle.stream.proofs.StepLaws.{steps_placed}
use Rattle.xy.specs.Outlines.{microns_of, numbers_of, steps_from, numbers_from, vertex_from, InReach}

-- ---- z steps are a double: z and z / 1,024 have at most 53 digits
pub whole_fits : (z : ℤ) → nat_abs z ≤ 4294967296 → T (in_float binary64 z)
unfolding in_float
whole_fits (pos n) h = subst T (sym (le-leb n (2 ^ 53) (le_trans h (lit≤ tt)))) tt
whole_fits (negsuc n) h = subst T (sym (lt-ltb n (2 ^ 53) (le_trans h (lit≤ tt)))) tt

whole_rounds : (z : ℤ) → Rounds (of_int binary64 z) z (2 ^ 0)
unfolding of_int
whole_rounds (pos n) = record { sign = false; mag = n; den_pos = lit≤ tt; same = refl; val = refl }
whole_rounds (negsuc n) = record { sign = true; mag = suc n; den_pos = lit≤ tt; same = refl; val = refl }

whole_is : (z : ℤ) → nat_abs z ≤ 1048576 → Is 0 (of_int binary64 z) z
whole_is z h = rounds_exact 0 (whole_rounds z) (lit≤ tt) (le_trans h (lit≤ tt))

divisor_is : Is 0 (fin false 1 (pos 10)) (pos (2 ^ 10))
divisor_is = equation→is (fin false 1 (pos 10)) refl

-- on the grid it is exact
pub microns_on : (z : ℤ) → nat_abs z ≤ 1048576 → OnGrid (microns_of z) z
unfolding microns_of
microns_on z h = record { is = rounds_exact 10 (rw (one-*ℤ z) at (div_rounds false (whole_is z h) divisor_is (lit≤ tt))) (lit≤ tt) (le_trans h (lit≤ tt)); near = h }

numbers_each : (zs : List ℤ) → Every (λ z. far_step z ≡ false) zs → Each OnGrid (numbers_of zs) zs
unfolding Every
numbers_each [] h = none
numbers_each (z ∷ zs) h = more (microns_on z (ltb-false 1048576 (nat_abs z) h.0)) (numbers_each zs h.1)

-- where no step is beyond the reach
pub numbers_on_grid : (zs : List ℤ) → any_far zs ≡ false → OutlineOn (numbers_of zs)
numbers_on_grid zs h = record { steps = zs; on = numbers_each zs (every_fails far_step zs h) }

-- ---- by place
abbrev number_at : List ℕ → ℕ → ℕ → Float
number_at s from k = microns_of (step_at s from k)

steps_from_lem : (s : List ℕ) (from n : ℕ) → from + 8 * n ≤ length s → steps_from s from n ≡ run (step_at s from) 0 (2 * n)
steps_from_lem s from n h = let e : 8 * n ≡ 4 * (2 * n) = omega arith in rw e (steps_placed s from (2 * n) (omega arith))

-- counted by coordinates
pub far_from : (s : List ℕ) (from n : ℕ) → any_far (steps_in (take (4 * (2 * n)) (drop from s))) ≡ any_far (steps_from s from n)
far_from s from n = let e : 8 * n ≡ 4 * (2 * n) = omega arith in rw e

numbers_placed : (s : List ℕ) (from n : ℕ) → from + 8 * n ≤ length s → numbers_from s from n ≡ run (number_at s from) 0 (2 * n)
numbers_placed s from n h = ap numbers_of (steps_from_lem s from n h) ∙ map_run microns_of (step_at s from) 0 (2 * n)

module _ (s : List ℕ) (from n : ℕ) (room : from + 8 * n ≤ length s) where
  -- how many they are
  pub length_from : length (numbers_from s from n) ≡ 2 * n
  length_from = ap length (numbers_placed s from n room) ∙ length_run (number_at s from) 0 (2 * n)

  pub count_from : count (numbers_from s from n) ≡ n
  count_from = let e = length_from in omega arith

  -- each number and each vertex
  number_from : (k : ℕ) → k < 2 * n → get_or (numbers_from s from n) k nan ≡ number_at s from k
  number_from k l = ap (λ (v : List Float). get_or v k nan) (numbers_placed s from n room) ∙ run_at (number_at s from) 0 (2 * n) k nan l ∙ ap (number_at s from) (omega arith)

  pub vertex_from_lem : (i : ℕ) → i < n → vertex_at (numbers_from s from n) i ≡ vertex_from s from i
  vertex_from_lem i l = rw (number_from (2 * i) (omega arith), number_from (2 * i + 1) (omega arith))

  -- those of the first m vertices
  pub take_from : (m : ℕ) → m ≤ n → take (2 * m) (numbers_from s from n) ≡ numbers_from s from m
  take_from m l = ap (take (2 * m)) (numbers_placed s from n room) ∙ take_run (number_at s from) (2 * m) (2 * n) (omega arith) ∙ sym (numbers_placed s from m (omega arith))

-- ---- where none is beyond the reach: no step of them is, and none of the first m vertices
module _ (s : List ℕ) (from n : ℕ) (h : InReach s from n) where
  pub step_near : (k : ℕ) → k < 2 * n → far_step (step_at s from k) ≡ false
  step_near k l =
      let e = ap any_far (sym (steps_from_lem s from n h.within)) ∙ h.near in
      let b = length_run (step_at s from) 0 (2 * n) in
      ap far_step (sym (run_at (step_at s from) 0 (2 * n) k (pos 0) l ∙ ap (step_at s from) (omega arith)))
      ∙ any_at_lem far_step (pos 0) (run (step_at s from) 0 (2 * n)) k (omega arith) e

  pub near_fewer : (m : ℕ) → m ≤ n → InReach s from m
  near_fewer m l =
      let room = h.within in
      let p = ap any_far (sym (steps_from_lem s from n room ∙ run_split (step_at s from) (2 * m) (2 * n) (omega arith))) ∙ h.near in
      let fewer : from + 8 * m ≤ length s = omega arith in
      record {
        within = fewer;
        near = ap any_far (steps_from_lem s from m fewer) ∙ (or_none _ _ (sym (any_append far_step (run (step_at s from) 0 (2 * m)) (run (step_at s from) (2 * m) (2 * n - 2 * m))) ∙ p)).0;
      }
