-- The errors of the root and of `hypot`: within 2 ^ -52 and 2 ^ -50 of the exact one, said of the squares, all in units of 2 ^ -1074. Assumes nothing.
use Rattle.std.proofs.Common.{◌≡◌, ℕ, ◌+◌, ◌-◌, ◌*◌, ◌^◌, ◌<◌, ◌≤◌, Bool, true, false, T, [], ◌∷◌, ℤ, pos, ◌+ℤ◌, ◌-ℤ◌, ◌*ℤ◌, neg_ℤ, nat_abs, sym, refl, ◌∙◌, subst, ⊎_elim, le_trans, le_of_lt, add-le-add, lt_irrefl, eq-zero-or-pos, mul-le-mul, mul-pos, zero-mul, arith, lit≤, pow_pos, eq-eqb}
use lib.Ieee.{Float, fin, binary64, up, down, add, mul, fits}
use lib.Ieee.Fits.{up_pos, down_pos, add-fits}
use lib.Ieee.Exact.{HasValue}
use lib.Ieee.Positive.{positive, positive_of_value}
use Rattle.algebra.proofs.Quote.{quote}
use Rattle.algebra.specs.Int.{pos_part_neg, neg_part_neg}
use Rattle.algebra.specs.Order.{◌≦◌, ◌≺◌, ord, Within, nat_abs_add, nat_abs_mul, pos_le, pos_lt, pos_nonneg, ≤ℤ-or-<ℤ, ≤ℤ-antisym, <ℤ→≤ℤ, sq_nonneg, +ℤ-mono}
use Rattle.algebra.proofs.Lin.{le, le_from}
use Rattle.algebra.proofs.Comb.{le_comb}
use Rattle.algebra.proofs.Mono.{mul_mono, mul_cancel, within_cancel}
use Rattle.algebra.specs.Sign.{signed}
use Rattle.algebra.proofs.SignedLaws.{signed_cross}
use Rattle.number.specs.Exact.{Is}
use Rattle.number.specs.Root.{sqrt_of}
use Rattle.number.specs.Hypot.{hypot_of}
use Rattle.number.specs.Rounding.{Rounded}
use Rattle.number.proofs.Operations.{Equation, is→equation, is_unique}
use Rattle.number.proofs.RoundingLaws.{rounded_relative_plus, rounded_nonneg}
use Rattle.number.proofs.Values.{rounded_nat_abs}
use Rattle.number.proofs.ExactLaws.{add_result, mul_result}
use Rattle.number.proofs.CloseRoot.{Close, sqrt_close}

-- ---- the root

-- x is d units, and the square of d is off y units, which are y * 2 ^ 1074 squares of the unit, by at most 2 ^ -52 of itself
pub record RootNear (x : Float) (y : ℤ) : Type 0 where
  pub d : ℤ
  pub is : Is 1074 x d
  pub plus : pos 0 ≦ d
  pub near : Within (pos (2 ^ 52) *ℤ (d *ℤ d -ℤ y *ℤ pos (2 ^ 1074))) (d *ℤ d)

-- q p, with a q of 53 digits, where √M is less than 1/2 off q: the error of its square, by its square
half_near : (q p M : ℕ) → 2 ^ 52 ≤ q → q * q < M + q → M ≤ q * q + q → Within (pos (2 ^ 52) *ℤ (pos (q * p) *ℤ pos (q * p) -ℤ pos (M * (p * p)))) (pos (q * p) *ℤ pos (q * p))
half_near q p M a b c =
    let ρ = pos q ∷ pos p ∷ pos M ∷ [] in
    let P = pos_nonneg (p * p) in
    let digits = mul_mono (pos (q * (p * p))) (pos_nonneg (q * (p * p))) (pos_le a) in
    record {
      low = le_from ρ (le digits ∷ le (mul_mono (pos (p * p)) P (pos_le c)) ∷ []) (search quote depth 30) (omega arith);
      high = le_from ρ (le digits ∷ le (mul_mono (pos (p * p)) P (pos_le (le_of_lt b))) ∷ []) (search quote depth 30) (omega arith);
    }

close_near : {x r : Float} {y : ℤ} → Is 1074 x y → Close x r → RootNear r y
close_near {x} {r} {y} h C =
    let n : pos C.n ≡ y = is_unique (record { sign = false; mag = C.n; has = C.x_is; is = refl }) h in
    let root = C.q * 2 ^ C.k in
    record {
      d = pos root;
      is = record { sign = false; mag = root; has = C.r_is; is = refl };
      plus = pos_nonneg root;
      near = subst (λ (v : ℤ). Within (pos (2 ^ 52) *ℤ (pos root *ℤ pos root -ℤ v *ℤ pos (2 ^ 1074))) (pos root *ℤ pos root)) n
          (subst (λ (v : ℕ). Within (pos (2 ^ 52) *ℤ (pos root *ℤ pos root -ℤ pos v)) (pos root *ℤ pos root)) (sym C.square) (half_near C.q (2 ^ C.k) C.M C.q_ge C.low C.high));
    }

is_positive : {k : ℕ} {x : Float} {z : ℤ} → Is k x z → pos 0 ≺ z → T (positive x)
is_positive {k} {x} {z} h Z = go h.sign h.mag h.has h.is
  where
    go : (s : Bool) (m : ℕ) → HasValue x s m (2 ^ k) → signed s m ≡ z → T (positive x)
    go false m v e = let l : pos 0 ≺ pos m = rw e Z in positive_of_value x m (2 ^ k) v (omega ord)
    go true m v e = let l : pos 0 ≺ neg_ℤ (pos m) = rw e Z in absurd (omega (ord, pos_part_neg (pos m), neg_part_neg (pos m)))

-- the root of a zero is that zero
root_of_zero : {k : ℕ} {x : Float} → Is k x (pos 0) → sqrt_of x ≡ x
unfolding sqrt_of
root_of_zero {k} {x} h = at x (is→equation h)
  where
    at : (x : Float) → Equation k x (pos 0) → sqrt_of x ≡ x
    at lib.Ieee.nan h = elim h [ ]
    at (lib.Ieee.inf _) h = elim h [ ]
    at (fin s m e) h =
        let none : m * up e * 2 ^ k ≡ 0 = (signed_cross s (m * up e) (down e) (2 ^ k) (pos 0) (down_pos e) h).0 ∙ zero-mul (down e) in
        let z : m ≡ 0 = ⊎_elim (λ z. z) (λ (M : 0 < m). absurd (lt_irrefl 0 (subst (λ (v : ℕ). 0 < v) none (mul-pos (mul-pos M (up_pos e)) (pow_pos k))))) (eq-zero-or-pos m) in
        rw (eq-eqb m 0 z)

pub sqrt_relative : {x : Float} {y : ℤ} → Is 1074 x y → T (fits binary64 x) → pos 0 ≦ y → RootNear (sqrt_of x) y
sqrt_relative {x} {y} h F Y = ⊎_elim (λ (l : y ≦ pos 0). nought (≤ℤ-antisym l Y)) (λ (P : pos 0 ≺ y). close_near h (sqrt_close x F (is_positive h P))) (≤ℤ-or-<ℤ y (pos 0))
  where
    nought : y ≡ pos 0 → RootNear (sqrt_of x) y
    nought e =
        let z : Is 1074 x (pos 0) = subst (Is 1074 x) e h in
        subst (RootNear (sqrt_of x)) (sym e) (record { d = pos 0; is = rw (root_of_zero z) z; plus = pos_nonneg 0; near = record { low = record { le = tt }; high = record { le = tt } } })

-- ---- hypot

-- x is d units, and the square of d is off u * u + w * w by at most 2 ^ -50 of that and 8 units, which are 8 * 2 ^ 1074 squares of the unit
pub record HypotNear (x : Float) (u w : ℤ) : Type 0 where
  pub d : ℤ
  pub is : Is 1074 x d
  pub plus : pos 0 ≦ d
  pub near : Within (pos (2 ^ 50) *ℤ (d *ℤ d -ℤ (u *ℤ u +ℤ w *ℤ w))) (u *ℤ u +ℤ w *ℤ w +ℤ pos (2 ^ 53) *ℤ pos (2 ^ 1074))

-- x is S units, which are S * 2 ^ 1074 squares of the unit, and off u * u + w * w by at most 2 ^ -51 of that and 2 units
pub record SquaresNear (x : Float) (u w : ℤ) : Type 0 where
  pub S : ℤ
  pub is : Is 1074 x S
  pub plus : pos 0 ≦ S
  pub size : nat_abs S ≤ 2 ^ 2093
  pub near : Within (pos (2 ^ 51) *ℤ (S *ℤ pos (2 ^ 1074) -ℤ (u *ℤ u +ℤ w *ℤ w))) (u *ℤ u +ℤ w *ℤ w +ℤ pos (2 ^ 52) *ℤ pos (2 ^ 1074))

-- A unit is U squares of the unit. The squares of u and w, rounded, are X1 and X2 units, and their sum, rounded, is S units
sum_near : (U u w X1 X2 S : ℤ) → pos 0 ≦ U
    → Within (pos (2 ^ 53) *ℤ (X1 *ℤ U -ℤ u *ℤ u)) (u *ℤ u +ℤ pos (2 ^ 52) *ℤ U)
    → Within (pos (2 ^ 53) *ℤ (X2 *ℤ U -ℤ w *ℤ w)) (w *ℤ w +ℤ pos (2 ^ 52) *ℤ U)
    → Within (pos (2 ^ 53) *ℤ (S *ℤ pos 1 -ℤ (X1 +ℤ X2))) (X1 +ℤ X2 +ℤ pos (2 ^ 52) *ℤ pos 1)
    → Within (pos (2 ^ 51) *ℤ (S *ℤ U -ℤ (u *ℤ u +ℤ w *ℤ w))) (u *ℤ u +ℤ w *ℤ w +ℤ pos (2 ^ 52) *ℤ U)
sum_near U u w X1 X2 S U0 h1 h2 h3 =
    let ρ = U ∷ u ∷ w ∷ X1 ∷ X2 ∷ S ∷ [] in
    within_cancel (pos (2 ^ 55)) (record { lt = tt }) (record {
      low = le_comb ρ (le (mul_mono U U0 h3.low) ∷ le h1.low ∷ le h2.low ∷ le (sq_nonneg u) ∷ le (sq_nonneg w) ∷ le U0 ∷ [])
          ((2 ^ 53) ∷ (2 ^ 53 - 1) ∷ (2 ^ 53 - 1) ∷ (2 ^ 54 + 1) ∷ (2 ^ 54 + 1) ∷ (2 ^ 105 + 2 ^ 53) ∷ []) 0 (search quote depth 30) tt;
      high = le_comb ρ (le (mul_mono U U0 h3.high) ∷ le h1.high ∷ le h2.high ∷ le (sq_nonneg u) ∷ le (sq_nonneg w) ∷ le U0 ∷ [])
          ((2 ^ 53) ∷ (2 ^ 53 + 1) ∷ (2 ^ 53 + 1) ∷ (2 ^ 54 - 1) ∷ (2 ^ 54 - 1) ∷ (2 ^ 105 - 2 ^ 53) ∷ []) 0 (search quote depth 30) tt;
    })

-- the square of at most 2 ^ 1580 units, rounded, is at most 2 ^ 2090 units
square_size : {R : ℤ} (n : ℤ) → Rounded R (n *ℤ n) (pos (2 ^ 1074)) → nat_abs n ≤ 2 ^ 1580 → nat_abs R ≤ 2 ^ 2090
square_size n r h = le_trans (rounded_nat_abs (2 ^ 2086) (pow_pos 1074) r (rw (nat_abs_mul n n) (mul-le-mul h h))) (lit≤ tt)

-- the sum of the squares of numbers of at most 2 ^ 506 in size, so that no square overflows
pub squares_relative : {x y : Float} {u w : ℤ} → Is 1074 x u → Is 1074 y w → nat_abs u ≤ 2 ^ 1580 → nat_abs w ≤ 2 ^ 1580 → SquaresNear (add binary64 (mul binary64 x x) (mul binary64 y y)) u w
squares_relative {x} {y} {u} {w} h g hs gs =
    let one : pos 0 ≺ pos 1 = record { lt = tt } in
    let U : pos 0 ≺ pos (2 ^ 1074) = pos_lt (pow_pos 1074) in
    let A = mul_result h h (le_trans (mul-le-mul hs hs) (lit≤ tt)) in
    let B = mul_result g g (le_trans (mul-le-mul gs gs) (lit≤ tt)) in
    let small = add-le-add (square_size u A.rnd hs) (square_size w B.rnd gs) in
    let C = add_result A.is B.is (le_trans small (lit≤ tt)) in
    let sum : pos 0 ≦ A.R +ℤ B.R = +ℤ-mono (rounded_nonneg U A.rnd (sq_nonneg u)) (rounded_nonneg U B.rnd (sq_nonneg w)) in
    record {
      S = C.R;
      is = C.is;
      plus = rounded_nonneg one C.rnd sum;
      size = le_trans (rounded_nat_abs (2 ^ 2091) (lit≤ tt) C.rnd (le_trans (nat_abs_add A.R B.R) (le_trans small (lit≤ tt)))) (lit≤ tt);
      near = sum_near (pos (2 ^ 1074)) u w A.R B.R C.R (<ℤ→≤ℤ U) (rounded_relative_plus U A.rnd (sq_nonneg u)) (rounded_relative_plus U B.rnd (sq_nonneg w)) (rounded_relative_plus one C.rnd sum);
    }

-- N is u * u + w * w, S their sum in units of U squares, and D the square of its root
length_near : (U N S D : ℤ) → pos 0 ≦ U → pos 0 ≦ N → Within (pos (2 ^ 51) *ℤ (S *ℤ U -ℤ N)) (N +ℤ pos (2 ^ 52) *ℤ U) → Within (pos (2 ^ 52) *ℤ (D -ℤ S *ℤ U)) D → Within (pos (2 ^ 50) *ℤ (D -ℤ N)) (N +ℤ pos (2 ^ 53) *ℤ U)
length_near U N S D U0 N0 h g =
    let ρ = U ∷ N ∷ S ∷ D ∷ [] in
    record {
      low = mul_cancel (pos (2 ^ 53 + 2)) (neg_ℤ (N +ℤ pos (2 ^ 53) *ℤ U)) (pos (2 ^ 50) *ℤ (D -ℤ N)) (record { lt = tt })
          (le_comb ρ (le g.low ∷ le h.low ∷ le N0 ∷ le U0 ∷ []) ((2 ^ 51) ∷ (2 ^ 52) ∷ (2 ^ 51 + 2) ∷ (2 ^ 106 + 2 ^ 54 - 2 ^ 104) ∷ []) 0 (search quote depth 30) tt);
      high = mul_cancel (pos (2 ^ 53 - 2)) (pos (2 ^ 50) *ℤ (D -ℤ N)) (N +ℤ pos (2 ^ 53) *ℤ U) (record { lt = tt })
          (le_comb ρ (le g.high ∷ le h.high ∷ le N0 ∷ le U0 ∷ []) ((2 ^ 51) ∷ (2 ^ 52) ∷ (2 ^ 51 - 2) ∷ (2 ^ 106 - 2 ^ 54 - 2 ^ 104) ∷ []) 0 (search quote depth 30) tt);
    }

-- of numbers of that size
pub hypot_relative : {x y : Float} {u w : ℤ} → Is 1074 x u → Is 1074 y w → nat_abs u ≤ 2 ^ 1580 → nat_abs w ≤ 2 ^ 1580 → HypotNear (hypot_of x y) u w
unfolding hypot_of
hypot_relative {x} {y} {u} {w} h g hs gs =
    let Q = squares_relative h g hs gs in
    let D = sqrt_relative Q.is (add-fits binary64 (mul binary64 x x) (mul binary64 y y)) Q.plus in
    record { d = D.d; is = D.is; plus = D.plus; near = length_near (pos (2 ^ 1074)) (u *ℤ u +ℤ w *ℤ w) Q.S (D.d *ℤ D.d) (pos_nonneg (2 ^ 1074)) (+ℤ-mono (sq_nonneg u) (sq_nonneg w)) Q.near D.near }
