-- The ring laws of lib.IntN's ℤ that it lacks, by one technique: every integer is a difference of naturals, `sub_ℕ a b`.
-- `sub_add`, `sub_mul`, `sub-neg` say what the operations do on differences and `sub_eq` when two are equal, so a law of ℤ is a law of ℕ, which `omega` proves.
use Rattle.std.specs.Prelude.{◌≡◌, refl, Bool, true, false, not, cond, ℕ, zero, suc, ◌+◌, ◌*◌, ◌-◌, ◌<◌, ◌≤◌, T, ltb, ℤ, pos, negsuc, neg_ℤ, ◌+ℤ◌, ◌*ℤ◌}
use Rattle.std.proofs.Common.{sym, ◌∙◌, ap, ap₂, subst, arith, ltb→lt, nltb→le}
use Rattle.std.proofs.Math.IntN.{sub_ℕ, *ℤ_comm}

-- ---- the two parts of an integer: z = posPart z − negPart z, and one of them is 0
abbrev pub pos_part : ℤ → ℕ
pos_part (pos n) = n
pos_part (negsuc n) = 0

abbrev pub neg_part : ℤ → ℕ
neg_part (pos n) = 0
neg_part (negsuc n) = suc n

cond_ind : (c : Bool) (x y : ℤ) (P : ℤ → Type 0) → (T c → P x) → (T (not c) → P y) → P (cond c x y)
cond_ind true x y P f g = f tt
cond_ind false x y P f g = g tt

pub sub_case : (a b : ℕ) (P : ℤ → Type 0) → (a < b → P (negsuc (b - suc a))) → (b ≤ a → P (pos (a - b))) → P (sub_ℕ a b)
sub_case a b P f g = cond_ind (ltb a b) (negsuc (b - suc a)) (pos (a - b)) P (λ t. f (ltb→lt a b t)) (λ t. g (nltb→le a b t))

-- the parts of a difference
pub sub_parts : (a b : ℕ) → pos_part (sub_ℕ a b) + b ≡ neg_part (sub_ℕ a b) + a
sub_parts a b = sub_case a b (λ z. pos_part z + b ≡ neg_part z + a) (λ h. omega arith) (λ h. omega arith)

-- an integer is known by its parts' difference
pub parts_eq : (x y : ℤ) → pos_part x + neg_part y ≡ pos_part y + neg_part x → x ≡ y
parts_eq (pos a) (pos b) h = ap pos (omega arith)
parts_eq (pos a) (negsuc b) h = absurd (omega arith)
parts_eq (negsuc a) (pos b) h = absurd (omega arith)
parts_eq (negsuc a) (negsuc b) h = ap negsuc (omega arith)

pub sub_eq : (a b c d : ℕ) → a + d ≡ c + b → sub_ℕ a b ≡ sub_ℕ c d
sub_eq a b c d h = parts_eq (sub_ℕ a b) (sub_ℕ c d) (omega (arith, sub_parts a b, sub_parts c d))

pub sub_parts_id : (z : ℤ) → sub_ℕ (pos_part z) (neg_part z) ≡ z
sub_parts_id z = parts_eq (sub_ℕ (pos_part z) (neg_part z)) z (omega (arith, sub_parts (pos_part z) (neg_part z)))

-- the parts of a sum, a product, a negation: what `omega` is handed
pub add_parts : (x y : ℤ) → pos_part (x +ℤ y) + (neg_part x + neg_part y) ≡ neg_part (x +ℤ y) + (pos_part x + pos_part y)
add_parts (pos a) (pos b) = omega arith
add_parts (pos a) (negsuc b) = omega (arith, sub_parts a (suc b))
add_parts (negsuc a) (pos b) = omega (arith, sub_parts b (suc a))
add_parts (negsuc a) (negsuc b) = omega arith

pub pos_part_neg : (x : ℤ) → pos_part (neg_ℤ x) ≡ neg_part x
pos_part_neg (pos zero) = refl
pos_part_neg (pos (suc n)) = refl
pos_part_neg (negsuc n) = refl

pub neg_part_neg : (x : ℤ) → neg_part (neg_ℤ x) ≡ pos_part x
neg_part_neg (pos zero) = refl
neg_part_neg (pos (suc n)) = refl
neg_part_neg (negsuc n) = refl

pub mul_parts : (x y : ℤ) → pos_part (x *ℤ y) + (pos_part x * neg_part y + neg_part x * pos_part y) ≡ neg_part (x *ℤ y) + (pos_part x * pos_part y + neg_part x * neg_part y)
mul_parts (pos a) (pos b) = omega arith
mul_parts (pos a) (negsuc b) = omega (arith, pos_part_neg (pos (a * suc b)), neg_part_neg (pos (a * suc b)))
mul_parts (negsuc a) (pos b) = omega (arith, pos_part_neg (pos (suc a * b)), neg_part_neg (pos (suc a * b)))
mul_parts (negsuc a) (negsuc b) = omega arith

-- ---- the operations on differences
pub sub_add : (a b c d : ℕ) → sub_ℕ a b +ℤ sub_ℕ c d ≡ sub_ℕ (a + c) (b + d)
sub_add a b c d = parts_eq (sub_ℕ a b +ℤ sub_ℕ c d) (sub_ℕ (a + c) (b + d)) (omega (arith, add_parts (sub_ℕ a b) (sub_ℕ c d), sub_parts a b, sub_parts c d, sub_parts (a + c) (b + d)))

-- (p − n)(q − m) = (a − b)(c − d), where p + b = n + a and q + d = m + c
cross : (p n q m a b c d : ℕ) → p + b ≡ n + a → q + d ≡ m + c → p * q + n * m + (a * d + b * c) ≡ p * m + n * q + (a * c + b * d)
cross p n q m a b c d h k = omega (arith, ap (λ t. t * q) h, ap (λ t. t * m) h, ap (λ t. a * t) k, ap (λ t. b * t) k)

pub sub_mul : (a b c d : ℕ) → sub_ℕ a b *ℤ sub_ℕ c d ≡ sub_ℕ (a * c + b * d) (a * d + b * c)
sub_mul a b c d = parts_eq (sub_ℕ a b *ℤ sub_ℕ c d) (sub_ℕ (a * c + b * d) (a * d + b * c))
    (omega (arith, mul_parts (sub_ℕ a b) (sub_ℕ c d), sub_parts (a * c + b * d) (a * d + b * c), cross (pos_part (sub_ℕ a b)) (neg_part (sub_ℕ a b)) (pos_part (sub_ℕ c d)) (neg_part (sub_ℕ c d)) a b c d (sub_parts a b) (sub_parts c d)))

-- ---- to prove P of every integer, prove it of every difference
pub by_sub : (P : ℤ → Type 0) → ((a b : ℕ) → P (sub_ℕ a b)) → (z : ℤ) → P z
by_sub P f z = subst P (sub_parts_id z) (f (pos_part z) (neg_part z))

-- ---- the laws
pub *ℤ-assoc : (x y z : ℤ) → (x *ℤ y) *ℤ z ≡ x *ℤ (y *ℤ z)
*ℤ-assoc = by_sub (λ x. (y z : ℤ) → (x *ℤ y) *ℤ z ≡ x *ℤ (y *ℤ z)) λ a b. by_sub (λ y. (z : ℤ) → (sub_ℕ a b *ℤ y) *ℤ z ≡ sub_ℕ a b *ℤ (y *ℤ z)) λ c d. by_sub (λ z. (sub_ℕ a b *ℤ sub_ℕ c d) *ℤ z ≡ sub_ℕ a b *ℤ (sub_ℕ c d *ℤ z)) λ e f.
    ap (λ t. t *ℤ sub_ℕ e f) (sub_mul a b c d) ∙ sub_mul (a * c + b * d) (a * d + b * c) e f
    ∙ sub_eq ((a * c + b * d) * e + (a * d + b * c) * f) ((a * c + b * d) * f + (a * d + b * c) * e) (a * (c * e + d * f) + b * (c * f + d * e)) (a * (c * f + d * e) + b * (c * e + d * f)) (omega arith)
    ∙ sym (ap (λ t. sub_ℕ a b *ℤ t) (sub_mul c d e f) ∙ sub_mul a b (c * e + d * f) (c * f + d * e))

pub *ℤ-+ℤ : (x y z : ℤ) → x *ℤ (y +ℤ z) ≡ x *ℤ y +ℤ x *ℤ z
*ℤ-+ℤ = by_sub (λ x. (y z : ℤ) → x *ℤ (y +ℤ z) ≡ x *ℤ y +ℤ x *ℤ z) λ a b. by_sub (λ y. (z : ℤ) → sub_ℕ a b *ℤ (y +ℤ z) ≡ sub_ℕ a b *ℤ y +ℤ sub_ℕ a b *ℤ z) λ c d. by_sub (λ z. sub_ℕ a b *ℤ (sub_ℕ c d +ℤ z) ≡ sub_ℕ a b *ℤ sub_ℕ c d +ℤ sub_ℕ a b *ℤ z) λ e f.
    ap (λ t. sub_ℕ a b *ℤ t) (sub_add c d e f) ∙ sub_mul a b (c + e) (d + f)
    ∙ sub_eq (a * (c + e) + b * (d + f)) (a * (d + f) + b * (c + e)) ((a * c + b * d) + (a * e + b * f)) ((a * d + b * c) + (a * f + b * e)) (omega arith)
    ∙ sym (ap₂ ◌+ℤ◌ (sub_mul a b c d) (sub_mul a b e f) ∙ sub_add (a * c + b * d) (a * d + b * c) (a * e + b * f) (a * f + b * e))

pub +ℤ-*ℤ : (x y z : ℤ) → (x +ℤ y) *ℤ z ≡ x *ℤ z +ℤ y *ℤ z
+ℤ-*ℤ x y z = *ℤ_comm (x +ℤ y) z ∙ *ℤ-+ℤ z x y ∙ ap₂ ◌+ℤ◌ (*ℤ_comm z x) (*ℤ_comm z y)

pub one-*ℤ : (x : ℤ) → pos 1 *ℤ x ≡ x
one-*ℤ x = parts_eq (pos 1 *ℤ x) x (omega (arith, mul_parts (pos 1) x))

pub *ℤ-one' : (x : ℤ) → x *ℤ pos 1 ≡ x
*ℤ-one' x = *ℤ_comm x (pos 1) ∙ one-*ℤ x

-- negation is the product with −1
pub negℤ_is : (x : ℤ) → neg_ℤ x ≡ negsuc 0 *ℤ x
negℤ_is x = parts_eq (neg_ℤ x) (negsuc 0 *ℤ x) (omega (arith, mul_parts (negsuc 0) x, pos_part_neg x, neg_part_neg x))
