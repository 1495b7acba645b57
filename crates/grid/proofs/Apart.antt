-- A point that is not on an edge has a squared distance from it above 0. Assumes nothing.
use mathlib.Core.Path.{◌≡◌, ap}
use mathlib.Core.Logic.{⊎_elim}
use mathlib.Core.List.{List, [], ◌∷◌}
use native.Mathlib.Omega.{arith}
use lib.Dec.{T}
use lib.IntN.{ℤ, pos, ◌-ℤ◌, ◌*ℤ◌}
use Rattle.algebra.proofs.Quote.{quote}
use Rattle.algebra.specs.Order.{◌≦◌, ◌≺◌, within_of_sq, ≤ℤ-antisym, ≤ℤ-or-<ℤ, mul_le, mul_pos, sq_nonneg}
use Rattle.algebra.proofs.Lin.{le, eq, le_from, eq_from}
use Rattle.algebra.proofs.Mono.{mul_cancel_eq}
use Rattle.grid.specs.Whole.{PointZ, EdgeZ, cross_z, on_edge_z}
use Rattle.grid.specs.Distance.{Region, region_of, squares_z, length_z, dot_z, num_of, num_z, Ratio}
use Rattle.grid.specs.Distance.Region.{before_start, beside, past_end}
use Rattle.grid.proofs.Line.{product_scaled, on_edge_lem}
use Rattle.grid.proofs.Regions.{in_region, reach, reach_ratio}

zero_square : (x : ℤ) → x *ℤ x ≦ pos 0 → x ≡ pos 0
zero_square x h = let w = within_of_sq x {d = pos 0} (record { le = tt }) h in ≤ℤ-antisym w.high w.low

pub zero_squares : (x y : ℤ) → squares_z x y ≦ pos 0 → (x ≡ pos 0) × (y ≡ pos 0)
zero_squares x y h =
    let ρ = x ∷ y ∷ [] in
    (zero_square x (le_from ρ (le h ∷ le (sq_nonneg y) ∷ []) (search quote depth 30) (omega arith)), zero_square y (le_from ρ (le h ∷ le (sq_nonneg x) ∷ []) (search quote depth 30) (omega arith)))

times : (c : ℤ) {x y : ℤ} → x ≡ y → x *ℤ c ≡ y *ℤ c
times c e = ap (λ (t : ℤ). t *ℤ c) e

between_ends_lem : {m n : ℤ} → Ratio m n → (a b r : ℤ) → (r -ℤ a) *ℤ n ≡ (b -ℤ a) *ℤ m → (r -ℤ a) *ℤ (r -ℤ b) ≦ pos 0
between_ends_lem {m} {n} t a b r e = product_scaled (r -ℤ a) (r -ℤ b) n (b -ℤ a) m (m -ℤ n) (mul_pos t.above t.above) e
    (eq_from (m ∷ n ∷ a ∷ b ∷ r ∷ []) (eq e ∷ []) (search quote depth 30) (omega arith)) (le_from (m ∷ n ∷ []) (le (mul_le t.low t.high) ∷ []) (search quote depth 30) (omega arith))

module _ (f : EdgeZ) (q : PointZ) where
  abbrev σ : List ℤ
  σ = f.a.x ∷ f.a.y ∷ f.b.x ∷ f.b.y ∷ q.x ∷ q.y ∷ []

  abbrev dot : ℤ
  dot = dot_z f q

  abbrev l2 : ℤ
  l2 = length_z f

  -- a + (m / n) (b - a) is on the edge
  pub ratio_on_edge : {m n : ℤ} → Ratio m n → (q.x -ℤ f.a.x) *ℤ n ≡ (f.b.x -ℤ f.a.x) *ℤ m → (q.y -ℤ f.a.y) *ℤ n ≡ (f.b.y -ℤ f.a.y) *ℤ m → T (on_edge_z q f)
  unfolding cross_z
  ratio_on_edge {m} {n} t x y = on_edge_lem f q
      (mul_cancel_eq n (cross_z f q) (pos 0) t.above (eq_from (m ∷ n ∷ σ) (eq (times (f.b.y -ℤ f.a.y) x) ∷ eq (times (f.b.x -ℤ f.a.x) y) ∷ []) (search quote depth 30) (omega arith)))
      (between_ends_lem t f.a.x f.b.x q.x x) (between_ends_lem t f.a.y f.b.y q.y y)

  pub off_edge_apart : pos 0 ≺ length_z f → (T (on_edge_z q f) → ⊥) → pos 0 ≺ num_z f q
  unfolding num_z cross_z
  off_edge_apart L0 off = let s = region_of f q in ⊎_elim (λ h. absurd (off (go s (reach_ratio dot l2 L0 s (in_region dot l2)) h))) (λ k. k) (≤ℤ-or-<ℤ (num_of s f q) (pos 0))
    where
      go : (s : Region) → Ratio (reach s dot l2) l2 → num_of s f q ≦ pos 0 → T (on_edge_z q f)
      go before_start t h =
          let z = zero_squares (q.x -ℤ f.a.x) (q.y -ℤ f.a.y) h in
          ratio_on_edge t (eq_from σ (eq (times l2 z.0) ∷ []) (search quote depth 30) (omega arith)) (eq_from σ (eq (times l2 z.1) ∷ []) (search quote depth 30) (omega arith))
      go beside t h =
          let flat = zero_square (cross_z f q) h in
          ratio_on_edge t (eq_from σ (eq (times (f.b.y -ℤ f.a.y) flat) ∷ []) (search quote depth 30) (omega arith)) (eq_from σ (eq (times (f.b.x -ℤ f.a.x) flat) ∷ []) (search quote depth 30) (omega arith))
      go past_end t h =
          let z = zero_squares (q.x -ℤ f.b.x) (q.y -ℤ f.b.y) h in
          ratio_on_edge t (eq_from σ (eq (times l2 z.0) ∷ []) (search quote depth 30) (omega arith)) (eq_from σ (eq (times l2 z.1) ∷ []) (search quote depth 30) (omega arith))
