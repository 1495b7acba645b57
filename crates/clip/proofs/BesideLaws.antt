-- Lines that stand apart from a part of a list that has changed. Assumes nothing.
use mathlib.Core.Path.{◌≡◌}
use mathlib.Core.Logic.{◌⊎◌, inl, inr, ⊎_elim}
use mathlib.Core.List.{List}
use Prim.Native.Nat.{ℕ, ◌+◌, ◌*◌, ◌≤◌, ◌<◌}
use native.Mathlib.Omega.{arith}
use lib.ListN.{length, get_or}
use lib.Ieee.{Float, nan}
use Rattle.lists.proofs.RunLaws.{run_same}
use Rattle.clip.specs.Lent.{line_at, line_in, lines_from}

-- two ranges share no place
abbrev pub disjoint : ℕ → ℕ → ℕ → ℕ → Type 0
disjoint o m to size = (o + m ≤ to) ⊎ (to + size ≤ o)

-- ---- w has become v, and nothing but the `size` numbers from `to` on has changed
pub record Beside (to size : ℕ) (w v : List Float) : Type 0 where
  pub same : length v ≡ length w
  pub keeps : (i : ℕ) → (i < to) ⊎ (to + size ≤ i) → get_or v i nan ≡ get_or w i nan

module _ {to size : ℕ} {w v : List Float} (b : Beside to size w v) where
  -- a line that stands apart from it
  line_kept : (o : ℕ) → disjoint o 4 to size → line_at v o ≡ line_at w o
  line_kept o h =
      let k : (j : ℕ) → j < 4 → get_or v (o + j) nan ≡ get_or w (o + j) nan = λ j l. b.keeps (o + j) (⊎_elim (λ (p : o + 4 ≤ to). inl (omega arith)) (λ (p : to + size ≤ o). inr (omega arith)) h) in
      let z : get_or v o nan ≡ get_or w o nan = b.keeps o (⊎_elim (λ (p : o + 4 ≤ to). inl (omega arith)) (λ (p : to + size ≤ o). inr (omega arith)) h) in
      rw (z, k 1 (omega arith), k 2 (omega arith), k 3 (omega arith))

  pub line_in_kept : (from n i : ℕ) → disjoint from (4 * n) to size → i < n → line_in v from i ≡ line_in w from i
  line_in_kept from n i h l = line_kept (from + 4 * i) (⊎_elim (λ (p : from + 4 * n ≤ to). inl (omega arith)) (λ (p : to + size ≤ from). inr (omega arith)) h)

  lines_kept : (from n lo k : ℕ) → disjoint from (4 * n) to size → lo + k ≤ n → lines_from v from lo k ≡ lines_from w from lo k
  lines_kept from n lo k h l = run_same (line_in v from) (line_in w from) lo k (λ i m. line_in_kept from n i h (omega arith))
