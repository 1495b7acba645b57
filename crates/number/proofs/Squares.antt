-- A square by halves of 26 bits, and the test of a root. Assumes nothing.
use Rattle.std.proofs.Common.{◌≡◌, ℕ, ◌+◌, ◌-◌, ◌*◌, ◌/◌, ◌%◌, ◌^◌, ◌<◌, ◌≤◌, sym, ap, ◌∙◌, mod-eq_of_lt, mul-le-mul, arith}
use Rattle.number.specs.Root.{NearestWhole}

pub square_of : (q : ℕ) → q * q ≡ (q / 2 ^ 26) * (q / 2 ^ 26) * 2 ^ 52 + (q / 2 ^ 26 * (q % 2 ^ 26) + q / 2 ^ 26 * (q % 2 ^ 26)) * 2 ^ 26 + q % 2 ^ 26 * (q % 2 ^ 26)
square_of q = ap (λ (x : ℕ). x * x) e ∙ omega arith
  where
    e : q ≡ q / 2 ^ 26 * 2 ^ 26 + q % 2 ^ 26
    e = omega arith

-- and how large the products of its halves are
pub halves_le : (q : ℕ) → q < 2 ^ 53 → (q / 2 ^ 26 * (q / 2 ^ 26) ≤ (2 ^ 27 - 1) * (2 ^ 27 - 1)) × (q / 2 ^ 26 * (q % 2 ^ 26) ≤ (2 ^ 27 - 1) * (2 ^ 26 - 1)) × (q % 2 ^ 26 * (q % 2 ^ 26) ≤ (2 ^ 26 - 1) * (2 ^ 26 - 1)) × (q * q ≤ (2 ^ 53 - 1) * (2 ^ 53 - 1))
halves_le q h = (mul-le-mul a a, mul-le-mul a b, mul-le-mul b b, mul-le-mul d d)
  where
    a : q / 2 ^ 26 ≤ 2 ^ 27 - 1
    a = omega arith

    b : q % 2 ^ 26 ≤ 2 ^ 26 - 1
    b = omega arith

    d : q ≤ 2 ^ 53 - 1
    d = omega arith

-- q's square, by the remainders that are left of c * 2 ^ 52 after each product of the halves, is within q of it
module _ (c q e f : ℕ) (C : c < 2 ^ 54) (Q : q < 2 ^ 53)
    (E : (e + q / 2 ^ 26 * (q / 2 ^ 26)) % 2 ^ 64 ≡ c) (e-small : e < 2 ^ 36)
    (F : (f + 2 * (q / 2 ^ 26 * (q % 2 ^ 26))) % 2 ^ 64 ≡ e * 2 ^ 26 + 2 ^ 30) (f-small : f < 2 ^ 31) where
  pub root_tested : q % 2 ^ 26 * (q % 2 ^ 26) + 2 ^ 56 < f * 2 ^ 26 + q → f * 2 ^ 26 + q ≤ q % 2 ^ 26 * (q % 2 ^ 26) + 2 ^ 56 + 2 * q → NearestWhole c q
  root_tested l h =
      let A = q / 2 ^ 26 * (q / 2 ^ 26) in
      let B = q / 2 ^ 26 * (q % 2 ^ 26) in
      let D = q % 2 ^ 26 * (q % 2 ^ 26) in
      let b = halves_le q Q in
      let first : e + A ≡ c = sym (mod-eq_of_lt (omega arith)) ∙ E in
      let second : f + 2 * B ≡ e * 2 ^ 26 + 2 ^ 30 = sym (mod-eq_of_lt (omega arith)) ∙ F in
      let n = apart A B D e f c first second (q * q) (square_of q) in
      record { low = omega arith; high = omega arith }
    where
      -- the square and what is left of c * 2 ^ 52
      apart : (A B D e f c : ℕ) → e + A ≡ c → f + 2 * B ≡ e * 2 ^ 26 + 2 ^ 30 → (n : ℕ) → n ≡ A * 2 ^ 52 + (B + B) * 2 ^ 26 + D → n + f * 2 ^ 26 ≡ c * 2 ^ 52 + 2 ^ 56 + D
      apart A B D e f c h k n s = omega arith
