-- ℤ as an ordered ring: the order is lib.Signed's (`◌≤ℤ◌`, `◌<ℤ◌`), which MIR's comparisons of signed integers are.
-- `le_parts` and `parts_le` carry it to ℕ and back, and are rules that `omega` takes: `omega (arith, le_parts, parts_le)`.
use Rattle.std.specs.Prelude.{◌≡◌, refl, ◌⊎◌, ℕ, suc, ◌+◌, ◌*◌, ◌<◌, ◌≤◌, T, ℤ, pos, negsuc, neg_ℤ, nat_abs, ◌+ℤ◌, ◌-ℤ◌, ◌*ℤ◌, ◌≤ℤ◌, ◌<ℤ◌}
use Rattle.std.proofs.Common.{ap, inl, inr, zero-le, mul-le-mul, leb→le, le→leb, ltb→lt, lt→ltb}
use Rattle.std.proofs.Math.Decide.{dec_le}
use native.Mathlib.Omega.{arith, by_contra}
use Rattle.std.proofs.Math.IntN.{sub_ℕ}
use Rattle.std.specs.Int.Signed.{le_z, lt_z}
use Rattle.algebra.specs.Int.{pos_part, neg_part, parts_eq, add_parts, pos_part_neg, neg_part_neg, sub_case}

-- lib.Signed's orders bind tighter than +ℤ (`infix 50`). These are the same orders, and bind looser: `x +ℤ y ≦ z`
infix 4 ◌≦◌ ◌≺◌
abbrev pub ◌≦◌ : ℤ → ℤ → Type 0
x ≦ y = ◌≤ℤ◌ x y

abbrev pub ◌≺◌ : ℤ → ℤ → Type 0
x ≺ y = ◌<ℤ◌ x y

-- ---- the order, in the parts
le_parts' : (x y : ℤ) → T (le_z x y) → pos_part x + neg_part y ≤ pos_part y + neg_part x
le_parts' (pos a) (pos b) t = omega (arith, leb→le a b t)
le_parts' (pos a) (negsuc b) t = absurd t
le_parts' (negsuc a) (pos b) t = omega arith
le_parts' (negsuc a) (negsuc b) t = omega (arith, leb→le b a t)

parts_le' : (x y : ℤ) → pos_part x + neg_part y ≤ pos_part y + neg_part x → T (le_z x y)
parts_le' (pos a) (pos b) h = le→leb a b (omega arith)
parts_le' (pos a) (negsuc b) h = absurd (omega arith)
parts_le' (negsuc a) (pos b) h = tt
parts_le' (negsuc a) (negsuc b) h = le→leb b a (omega arith)

lt_parts' : (x y : ℤ) → T (lt_z x y) → pos_part x + neg_part y < pos_part y + neg_part x
lt_parts' (pos a) (pos b) t = omega (arith, ltb→lt a b t)
lt_parts' (pos a) (negsuc b) t = absurd t
lt_parts' (negsuc a) (pos b) t = omega arith
lt_parts' (negsuc a) (negsuc b) t = omega (arith, ltb→lt b a t)

parts_lt' : (x y : ℤ) → pos_part x + neg_part y < pos_part y + neg_part x → T (lt_z x y)
parts_lt' (pos a) (pos b) h = lt→ltb a b (omega arith)
parts_lt' (pos a) (negsuc b) h = absurd (omega arith)
parts_lt' (negsuc a) (pos b) h = tt
parts_lt' (negsuc a) (negsuc b) h = lt→ltb b a (omega arith)

pub le_parts : {x y : ℤ} → x ≦ y → pos_part x + neg_part y ≤ pos_part y + neg_part x
le_parts {x} {y} h = le_parts' x y h.le

pub parts_le : {x y : ℤ} → pos_part x + neg_part y ≤ pos_part y + neg_part x → x ≦ y
parts_le {x} {y} h = record { le = parts_le' x y h }

pub lt_parts : {x y : ℤ} → x ≺ y → pos_part x + neg_part y < pos_part y + neg_part x
lt_parts {x} {y} h = lt_parts' x y h.lt

pub parts_lt : {x y : ℤ} → pos_part x + neg_part y < pos_part y + neg_part x → x ≺ y
parts_lt {x} {y} h = record { lt = parts_lt' x y h }

-- `omega ord`: order goals over ℤ whose sides are atoms; a sum, product or negation in them is handed over by `add_parts x y`, `pos_part_neg x`, `neg_part_neg x`
pub ruleset ord = (arith, le_parts, parts_le, lt_parts, parts_lt)

pub ≤ℤ-trans : {x y z : ℤ} → x ≦ y → y ≦ z → x ≦ z
≤ℤ-trans {x} {y} {z} h k = omega ord

pub ≤ℤ-antisym : {x y : ℤ} → x ≦ y → y ≦ x → x ≡ y
≤ℤ-antisym {x} {y} h k = parts_eq x y (omega ord)

pub ≤ℤ-of-eq : {x y : ℤ} → x ≡ y → x ≦ y
≤ℤ-of-eq {x} {y} e = omega (ord, ap pos_part e, ap neg_part e)

pub <ℤ→≤ℤ : {x y : ℤ} → x ≺ y → x ≦ y
<ℤ→≤ℤ h = omega ord

pub ≤ℤ-<ℤ-trans : {x y z : ℤ} → x ≦ y → y ≺ z → x ≺ z
≤ℤ-<ℤ-trans {x} {y} {z} h k = omega ord

pub ≤ℤ-or-<ℤ : (x y : ℤ) → (x ≦ y) ⊎ (y ≺ x)
≤ℤ-or-<ℤ x y = go (dec_le (pos_part x + neg_part y) (pos_part y + neg_part x))
  where
    go : Dec (pos_part x + neg_part y ≤ pos_part y + neg_part x) → (x ≦ y) ⊎ (y ≺ x)
    go (yes h) = inl (parts_le h)
    go (no n) = inr (omega ord)

-- ---- sums

pub +ℤ-mono : {x y u v : ℤ} → x ≦ y → u ≦ v → x +ℤ u ≦ y +ℤ v
+ℤ-mono {x} {y} {u} {v} h k = omega (ord, add_parts x u, add_parts y v)

pub negℤ_anti : {x y : ℤ} → x ≦ y → neg_ℤ y ≦ neg_ℤ x
negℤ_anti {x} {y} h = omega (ord, pos_part_neg x, neg_part_neg x, pos_part_neg y, neg_part_neg y)

pub sub_nonneg : {x y : ℤ} → x ≦ y → pos 0 ≦ y -ℤ x
sub_nonneg {x} {y} h = omega (ord, add_parts y (neg_ℤ x), pos_part_neg x, neg_part_neg x)

-- x ≤ y, because y is x and more: with `ring` for the equation, a bound is an identity and a nonnegative rest
pub le_by_rest : {x y : ℤ} (t : ℤ) → pos 0 ≦ t → y ≡ x +ℤ t → x ≦ y
le_by_rest {x} {y} t h e = omega (ord, add_parts x t, ap pos_part e, ap neg_part e)

-- ---- products
prod_nonneg : (a b : ℤ) → pos 0 ≦ a → pos 0 ≦ b → pos 0 ≦ a *ℤ b
prod_nonneg (pos m) (pos n) h k = parts_le zero-le
prod_nonneg (pos m) (negsuc n) h k = absurd k.le
prod_nonneg (negsuc m) b h k = absurd h.le

pub mul_nonneg : {a b : ℤ} → pos 0 ≦ a → pos 0 ≦ b → pos 0 ≦ a *ℤ b
mul_nonneg {a} {b} h k = prod_nonneg a b h k

prod_pos : (a b : ℤ) → pos 0 ≺ a → pos 0 ≺ b → pos 0 ≺ a *ℤ b
prod_pos (pos m) (pos n) h k = parts_lt (omega (arith, mul-le-mul (below m (lt_parts h)) (below n (lt_parts k))))
  where
    below : (m : ℕ) → 0 < m + 0 → 1 ≤ m
    below m h = omega arith
prod_pos (pos m) (negsuc n) h k = absurd k.lt
prod_pos (negsuc m) b h k = absurd h.lt

pub mul_pos : {a b : ℤ} → pos 0 ≺ a → pos 0 ≺ b → pos 0 ≺ a *ℤ b
mul_pos {a} {b} h k = prod_pos a b h k

pub sub_pos : {x y : ℤ} → x ≺ y → pos 0 ≺ y -ℤ x
sub_pos {x} {y} h = omega (ord, add_parts y (neg_ℤ x), pos_part_neg x, neg_part_neg x)

pub mul_lt : {x y u v : ℤ} → x ≺ y → u ≺ v → pos 0 ≺ (y -ℤ x) *ℤ (v -ℤ u)
mul_lt h k = mul_pos (sub_pos h) (sub_pos k)

-- the product of two orders: the hint for what is not linear
pub mul_le : {x y u v : ℤ} → x ≦ y → u ≦ v → pos 0 ≦ (y -ℤ x) *ℤ (v -ℤ u)
mul_le h k = mul_nonneg (sub_nonneg h) (sub_nonneg k)

pub sq_nonneg : (x : ℤ) → pos 0 ≦ x *ℤ x
sq_nonneg (pos n) = parts_le zero-le
sq_nonneg (negsuc n) = parts_le zero-le

-- ---- magnitudes
pub nat_abs_parts : (x : ℤ) → nat_abs x ≡ pos_part x + neg_part x
nat_abs_parts (pos n) = omega arith
nat_abs_parts (negsuc n) = omega arith

pub nat_abs_neg : (x : ℤ) → nat_abs (neg_ℤ x) ≡ nat_abs x
nat_abs_neg x = omega (arith, nat_abs_parts x, nat_abs_parts (neg_ℤ x), pos_part_neg x, neg_part_neg x)

pub nat_abs_mul : (x y : ℤ) → nat_abs (x *ℤ y) ≡ nat_abs x * nat_abs y
nat_abs_mul (pos a) (pos b) = refl
nat_abs_mul (pos a) (negsuc b) = nat_abs_neg (pos (a * suc b))
nat_abs_mul (negsuc a) (pos b) = nat_abs_neg (pos (suc a * b))
nat_abs_mul (negsuc a) (negsuc b) = refl

nat_abs_sub : (a b : ℕ) → nat_abs (sub_ℕ a b) ≤ a + b
nat_abs_sub a b = sub_case a b (λ z. nat_abs z ≤ a + b) (λ h. omega arith) (λ h. omega arith)

pub nat_abs_add : (x y : ℤ) → nat_abs (x +ℤ y) ≤ nat_abs x + nat_abs y
nat_abs_add (pos a) (pos b) = omega arith
nat_abs_add (pos a) (negsuc b) = nat_abs_sub a (suc b)
nat_abs_add (negsuc a) (pos b) = omega (arith, nat_abs_sub b (suc a))
nat_abs_add (negsuc a) (negsuc b) = omega arith

-- |x| as an integer
abbrev pub absℤ : ℤ → ℤ
absℤ x = pos (nat_abs x)

pub abs_mul : (x y : ℤ) → absℤ (x *ℤ y) ≡ absℤ x *ℤ absℤ y
abs_mul x y = ap pos (nat_abs_mul x y)

-- |x| ≤ e, as the two bounds. A record, so that x and e are inferred from a proof of it
pub record Within (x e : ℤ) : Type 0 where
  pub low : neg_ℤ e ≦ x
  pub high : x ≦ e

pub within : (x : ℤ) {e : ℤ} → absℤ x ≦ e → Within x e
within x {e} h = record { low = omega (ord, nat_abs_parts x, pos_part_neg e, neg_part_neg e); high = omega (ord, nat_abs_parts x) }

pub abs_le : {x e : ℤ} → Within x e → absℤ x ≦ e
abs_le {x = pos n} w = w.high
abs_le {x = negsuc n} {e} w = omega (ord, w.low, pos_part_neg e, neg_part_neg e)

pub within_nat_abs : {x : ℤ} {n : ℕ} → nat_abs x ≤ n → Within x (pos n)
within_nat_abs {x} {n} h = within x (parts_le (omega arith))

-- a larger bound
pub within_le : {x d e : ℤ} → Within x d → d ≦ e → Within x e
within_le {x} {d} {e} w h = record { low = omega (ord, w.low, pos_part_neg d, neg_part_neg d, pos_part_neg e, neg_part_neg e); high = omega (ord, w.high) }

pub within_neg : {x e : ℤ} → Within x e → Within (neg_ℤ x) e
within_neg {x} {e} w = record { low = negℤ_anti w.high; high = omega (ord, w.low, pos_part_neg x, neg_part_neg x, pos_part_neg e, neg_part_neg e) }

pub within_add : {x y d e : ℤ} → Within x d → Within y e → Within (x +ℤ y) (d +ℤ e)
within_add {x} {y} {d} {e} h g = record { low = omega (ord, h.low, g.low, add_parts x y, add_parts d e, pos_part_neg d, neg_part_neg d, pos_part_neg e, neg_part_neg e, pos_part_neg (d +ℤ e), neg_part_neg (d +ℤ e)); high = +ℤ-mono h.high g.high }

-- x² ≤ d² with d ≥ 0 gives |x| ≤ d
pub within_of_sq : (x : ℤ) {d : ℤ} → pos 0 ≦ d → x *ℤ x ≦ d *ℤ d → Within x d
within_of_sq x {d = pos n} h k = within x (parts_le (by_contra (nat_abs x + 0) (n + 0) (λ l. lt_irr (nat_abs x) n (omega arith) (sq≤ x n k))))
  where
    sq≤ : (x : ℤ) (n : ℕ) → x *ℤ x ≦ pos n *ℤ pos n → nat_abs x * nat_abs x ≤ n * n
    sq≤ (pos m) n k = omega ord
    sq≤ (negsuc m) n k = omega ord

    lt_irr : (m n : ℕ) → n < m → m * m ≤ n * n → ⊥
    lt_irr m n l q = omega (arith, mul-le-mul l l)
within_of_sq x {d = negsuc n} h k = absurd h.le

-- ---- ℕ's order
pub pos_le : {m n : ℕ} → m ≤ n → pos m ≦ pos n
pos_le h = parts_le (omega arith)

pub pos_lt : {m n : ℕ} → m < n → pos m ≺ pos n
pos_lt h = parts_lt (omega arith)

pub le_pos : {m n : ℕ} → pos m ≦ pos n → m ≤ n
le_pos h = omega (arith, le_parts h)

pub pos_nonneg : (n : ℕ) → pos 0 ≦ pos n
pos_nonneg n = pos_le zero-le

-- an integer that is not negative is a natural
pub nonneg_nat : {x : ℤ} → pos 0 ≦ x → pos (nat_abs x) ≡ x
nonneg_nat {x = pos n} h = refl
nonneg_nat {x = negsuc n} h = absurd h.le

pub le_of_within : {x : ℤ} {n : ℕ} → Within x (pos n) → nat_abs x ≤ n
le_of_within {x} {n} w = omega (arith, le_parts (abs_le w))
