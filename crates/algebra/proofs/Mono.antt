-- Laws of the ordered ring that are products of facts: each is one line by `le_from`.
use Rattle.std.specs.Prelude.{◌≡◌, [], ◌∷◌, ℤ, pos, neg_ℤ, ◌*ℤ◌}
use Rattle.std.proofs.Common.{sym, ⊎_elim, arith}
use Rattle.algebra.proofs.Quote.{quote}
use Rattle.algebra.specs.Order.{◌≦◌, ◌≺◌, Within, mul_le, mul_lt, ≤ℤ-or-<ℤ, ≤ℤ-of-eq, ≤ℤ-antisym, within_of_sq}
use Rattle.algebra.proofs.Lin.{le, lt, le_from, false_from}

pub mul_mono : (c : ℤ) {x y : ℤ} → pos 0 ≦ c → x ≦ y → x *ℤ c ≦ y *ℤ c
mul_mono c {x} {y} h k = le_from (c ∷ x ∷ y ∷ []) (le (mul_le h k) ∷ []) (search quote depth 30) (omega arith)

-- a factor above 0 is left out
pub mul_cancel : (c x y : ℤ) → pos 0 ≺ c → x *ℤ c ≦ y *ℤ c → x ≦ y
mul_cancel c x y h k = ⊎_elim (λ l. l) (λ g. absurd (false_from (c ∷ x ∷ y ∷ []) (lt (mul_lt h g) ∷ le k ∷ []) (search quote depth 30) (omega arith))) (≤ℤ-or-<ℤ x y)

pub mul_cancel_eq : (c x y : ℤ) → pos 0 ≺ c → x *ℤ c ≡ y *ℤ c → x ≡ y
mul_cancel_eq c x y h e = ≤ℤ-antisym (mul_cancel c x y h (≤ℤ-of-eq e)) (mul_cancel c y x h (≤ℤ-of-eq (sym e)))

-- a bound of a magnitude, multiplied and divided by a factor
pub within_mul : (c : ℤ) {x e : ℤ} → pos 0 ≦ c → Within x e → Within (x *ℤ c) (e *ℤ c)
within_mul c {x} {e} h w = record { low = le_from (c ∷ x ∷ e ∷ []) (le (mul_le h w.low) ∷ []) (search quote depth 30) (omega arith); high = mul_mono c h w.high }

pub within_cancel : (c : ℤ) {x e : ℤ} → pos 0 ≺ c → Within (x *ℤ c) (e *ℤ c) → Within x e
within_cancel c {x} {e} h w = record {
  low = mul_cancel c (neg_ℤ e) x h (le_from (c ∷ x ∷ e ∷ []) (le w.low ∷ []) (search quote depth 30) (omega arith));
  high = mul_cancel c x e h w.high;
}

pub sq_mono : {x y : ℤ} → pos 0 ≦ x → x ≦ y → x *ℤ x ≦ y *ℤ y
sq_mono {x} {y} h k = le_from (x ∷ y ∷ []) (le (mul_le h k) ∷ le (mul_le k k) ∷ []) (search quote depth 30) (omega arith)

-- a bound by its square
pub le_of_sq : (x : ℤ) {y : ℤ} → pos 0 ≦ y → x *ℤ x ≦ y *ℤ y → x ≦ y
le_of_sq x h k = (within_of_sq x h k).high

-- bounds of two magnitudes, multiplied
pub within_product : {x a y b : ℤ} → Within x a → Within y b → Within (x *ℤ y) (a *ℤ b)
within_product {x} {a} {y} {b} h k = record {
  low = le_from (x ∷ a ∷ y ∷ b ∷ []) (le (mul_le h.low k.low) ∷ le (mul_le h.high k.high) ∷ []) (search quote depth 30) (omega arith);
  high = le_from (x ∷ a ∷ y ∷ b ∷ []) (le (mul_le h.low k.high) ∷ le (mul_le h.high k.low) ∷ []) (search quote depth 30) (omega arith);
}
