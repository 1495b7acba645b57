-- Orders over ℤ by `omega`. `as_ℕ` reads an order between two quoted integers as an order of ℕ, linear in the parts (`pos_part`, `neg_part`) of the monomials of
-- right − left multiplied out; `by_ℕ` proves an order from one. So one `omega` decides what follows linearly from the listed facts, and a product
-- of two facts (`mul_le`, `sq_nonneg` of module Order) is one more fact.
-- `le_from ρ (le h ∷ le (mul_le h k) ∷ []) (search quote depth 30) (omega arith)` is how it is used. `omega` takes at most 64 atoms, two for each monomial, and 31 facts: past that, module Comb
use Rattle.std.specs.Prelude.{◌≡◌, List, [], ◌∷◌, ℕ, zero, suc, ◌+◌, ◌*◌, ◌<◌, ◌≤◌, ℤ, pos, negsuc, neg_ℤ, ◌+ℤ◌, ◌*ℤ◌}
use Rattle.std.proofs.Common.{◌∙◌, ap, ap₂, arith}
use Rattle.std.proofs.Math.IntN.{*ℤ_comm}
use Rattle.algebra.specs.Int.{pos_part, neg_part, parts_eq, add_parts, mul_parts, pos_part_neg, neg_part_neg, *ℤ-assoc, +ℤ-*ℤ}
use Rattle.algebra.specs.Ring.{add, neg, Pol, con, hor, ev, norm}
use Rattle.algebra.proofs.RingLaws.{norm_sound}
use Rattle.algebra.proofs.Quote.{Sides, Both, Four, Done}
use Rattle.algebra.specs.Order.{◌≦◌, ◌≺◌, ord}

-- the positive and the negative part of a polynomial times the monomial m
abbrev pub hi₁ : Pol → List ℤ → ℤ → ℕ
hi₁ (con (pos zero)) ρ m = 0
hi₁ (con (pos (suc n))) ρ m = suc n * pos_part m
hi₁ (con (negsuc n)) ρ m = suc n * neg_part m
hi₁ (hor c p) [] m = hi₁ c [] m
hi₁ (hor c p) (x ∷ ρ) m = hi₁ c ρ m + hi₁ p (x ∷ ρ) (x *ℤ m)

abbrev pub lo₁ : Pol → List ℤ → ℤ → ℕ
lo₁ (con (pos zero)) ρ m = 0
lo₁ (con (pos (suc n))) ρ m = suc n * neg_part m
lo₁ (con (negsuc n)) ρ m = suc n * pos_part m
lo₁ (hor c p) [] m = lo₁ c [] m
lo₁ (hor c p) (x ∷ ρ) m = lo₁ c ρ m + lo₁ p (x ∷ ρ) (x *ℤ m)

-- and of the polynomial itself
abbrev pub hi : Pol → List ℤ → ℕ
hi (con k) ρ = pos_part k
hi (hor c p) [] = hi c []
hi (hor c p) (x ∷ ρ) = hi c ρ + hi₁ p (x ∷ ρ) x

abbrev pub lo : Pol → List ℤ → ℕ
lo (con k) ρ = neg_part k
lo (hor c p) [] = lo c []
lo (hor c p) (x ∷ ρ) = lo c ρ + lo₁ p (x ∷ ρ) x

-- ---- soundness
one_step : (c x p m : ℤ) → (c +ℤ x *ℤ p) *ℤ m ≡ c *ℤ m +ℤ p *ℤ (x *ℤ m)
one_step c x p m = +ℤ-*ℤ c (x *ℤ p) m ∙ ap (λ t. c *ℤ m +ℤ t) (ap (λ t. t *ℤ m) (*ℤ_comm x p) ∙ *ℤ-assoc p x m)

parts₁ : (p : Pol) (ρ : List ℤ) (m : ℤ) → hi₁ p ρ m + neg_part (ev p ρ *ℤ m) ≡ lo₁ p ρ m + pos_part (ev p ρ *ℤ m)
parts₁ (con (pos zero)) ρ m = omega (arith, mul_parts (pos 0) m)
parts₁ (con (pos (suc n))) ρ m = omega (arith, mul_parts (pos (suc n)) m)
parts₁ (con (negsuc n)) ρ m = omega (arith, mul_parts (negsuc n) m)
parts₁ (hor c p) [] m = parts₁ c [] m
parts₁ (hor c p) (x ∷ ρ) m = omega (arith, parts₁ c ρ m, parts₁ p (x ∷ ρ) (x *ℤ m), add_parts (ev c ρ *ℤ m) (ev p (x ∷ ρ) *ℤ (x *ℤ m)), ap pos_part (one_step (ev c ρ) x (ev p (x ∷ ρ)) m), ap neg_part (one_step (ev c ρ) x (ev p (x ∷ ρ)) m))

parts : (p : Pol) (ρ : List ℤ) → hi p ρ + neg_part (ev p ρ) ≡ lo p ρ + pos_part (ev p ρ)
parts (con k) ρ = omega arith
parts (hor c p) [] = parts c []
parts (hor c p) (x ∷ ρ) = omega (arith, parts c ρ, parts₁ p (x ∷ ρ) x, add_parts (ev c ρ) (x *ℤ ev p (x ∷ ρ)), ap pos_part (*ℤ_comm x (ev p (x ∷ ρ))), ap neg_part (*ℤ_comm x (ev p (x ∷ ρ))))

-- ---- right − left, multiplied out
abbrev pub rest : {ρ : List ℤ} {x y : ℤ} → Sides ρ x y → Pol
rest s = norm (add s.right.ex (neg s.left.ex))

rest_parts : (ρ : List ℤ) {x y : ℤ} (s : Sides ρ x y) → hi (rest s) ρ + (pos_part x + neg_part y) ≡ lo (rest s) ρ + (pos_part y + neg_part x)
rest_parts ρ {x} {y} s = omega (arith, parts (rest s) ρ, ap pos_part e, ap neg_part e, add_parts y (neg_ℤ x), pos_part_neg x, neg_part_neg x)
  where
    e : ev (rest s) ρ ≡ y +ℤ neg_ℤ x
    e = norm_sound (add s.right.ex (neg s.left.ex)) ρ ∙ ap₂ ◌+ℤ◌ s.right.is (ap neg_ℤ s.left.is)

-- ---- the theorems
pub as_ℕ : (ρ : List ℤ) {x y : ℤ} → x ≦ y → (s : Sides ρ x y) → lo (rest s) ρ ≤ hi (rest s) ρ
as_ℕ ρ {x} {y} h s = omega (ord, rest_parts ρ s)

pub by_ℕ : (ρ : List ℤ) {x y : ℤ} (s : Sides ρ x y) → lo (rest s) ρ ≤ hi (rest s) ρ → x ≦ y
by_ℕ ρ {x} {y} s h = omega (ord, rest_parts ρ s)

pub lt_as_ℕ : (ρ : List ℤ) {x y : ℤ} → x ≺ y → (s : Sides ρ x y) → lo (rest s) ρ < hi (rest s) ρ
lt_as_ℕ ρ {x} {y} h s = omega (ord, rest_parts ρ s)

pub lt_by_ℕ : (ρ : List ℤ) {x y : ℤ} (s : Sides ρ x y) → lo (rest s) ρ < hi (rest s) ρ → x ≺ y
lt_by_ℕ ρ {x} {y} s h = omega (ord, rest_parts ρ s)

pub eq_as_ℕ : (ρ : List ℤ) {x y : ℤ} → x ≡ y → (s : Sides ρ x y) → lo (rest s) ρ ≡ hi (rest s) ρ
eq_as_ℕ ρ {x} {y} h s = omega (ord, rest_parts ρ s, ap pos_part h, ap neg_part h)

pub eq_by_ℕ : (ρ : List ℤ) {x y : ℤ} (s : Sides ρ x y) → lo (rest s) ρ ≡ hi (rest s) ρ → x ≡ y
eq_by_ℕ ρ {x} {y} s h = parts_eq x y (omega (ord, rest_parts ρ s))

-- ---- from a list of facts
pub data Fact : Type 0 where
  le : {x y : ℤ} → x ≦ y → Fact
  lt : {x y : ℤ} → x ≺ y → Fact
  eq : {x y : ℤ} → x ≡ y → Fact

-- a fact's two sides, quoted, and what it then says of naturals
abbrev pub Side : List ℤ → Fact → Type 0
Side ρ (le {x = x} {y = y} h) = Sides ρ x y
Side ρ (lt {x = x} {y = y} h) = Sides ρ x y
Side ρ (eq {x = x} {y = y} h) = Sides ρ x y

abbrev pub Says : (ρ : List ℤ) (f : Fact) → Side ρ f → Type 0
Says ρ (le h) s = lo (rest s) ρ ≤ hi (rest s) ρ
Says ρ (lt h) s = lo (rest s) ρ < hi (rest s) ρ
Says ρ (eq h) s = lo (rest s) ρ ≡ hi (rest s) ρ

says : (ρ : List ℤ) (f : Fact) (s : Side ρ f) → Says ρ f s
says ρ (le h) s = as_ℕ ρ h s
says ρ (lt h) s = lt_as_ℕ ρ h s
says ρ (eq h) s = eq_as_ℕ ρ h s

abbrev pub Quoted : List ℤ → List Fact → Type 0
Quoted ρ [] = Done
Quoted ρ (f ∷ []) = Side ρ f
Quoted ρ (f ∷ g ∷ []) = Both (Side ρ f) (Side ρ g)
Quoted ρ (f ∷ g ∷ h ∷ []) = Both (Side ρ f) (Both (Side ρ g) (Side ρ h))
Quoted ρ (f ∷ g ∷ h ∷ k ∷ fs) = Four (Side ρ f) (Side ρ g) (Side ρ h) (Side ρ k) (Quoted ρ fs)

abbrev pub Given : (ρ : List ℤ) (fs : List Fact) → Quoted ρ fs → Type 0 → Type 0
Given ρ [] q G = G
Given ρ (f ∷ []) q G = Says ρ f q → G
Given ρ (f ∷ g ∷ []) q G = Says ρ f q.this → Says ρ g q.others → G
Given ρ (f ∷ g ∷ h ∷ []) q G = Says ρ f q.this → Says ρ g q.others.this → Says ρ h q.others.others → G
Given ρ (f ∷ g ∷ h ∷ k ∷ fs) q G = Says ρ f q.first → Says ρ g q.second → Says ρ h q.third → Says ρ k q.fourth → Given ρ fs q.others G

give : (ρ : List ℤ) (fs : List Fact) (q : Quoted ρ fs) (G : Type 0) → Given ρ fs q G → G
give ρ [] q G r = r
give ρ (f ∷ []) q G r = r (says ρ f q)
give ρ (f ∷ g ∷ []) q G r = r (says ρ f q.this) (says ρ g q.others)
give ρ (f ∷ g ∷ h ∷ []) q G r = r (says ρ f q.this) (says ρ g q.others.this) (says ρ h q.others.others)
give ρ (f ∷ g ∷ h ∷ k ∷ fs) q G r = give ρ fs q.others G (r (says ρ f q.first) (says ρ g q.second) (says ρ h q.third) (says ρ k q.fourth))

pub le_from : (ρ : List ℤ) (fs : List Fact) {x y : ℤ} (q : Both (Sides ρ x y) (Quoted ρ fs)) → Given ρ fs q.others (lo (rest q.this) ρ ≤ hi (rest q.this) ρ) → x ≦ y
le_from ρ fs q g = by_ℕ ρ q.this (give ρ fs q.others (lo (rest q.this) ρ ≤ hi (rest q.this) ρ) g)

pub lt_from : (ρ : List ℤ) (fs : List Fact) {x y : ℤ} (q : Both (Sides ρ x y) (Quoted ρ fs)) → Given ρ fs q.others (lo (rest q.this) ρ < hi (rest q.this) ρ) → x ≺ y
lt_from ρ fs q g = lt_by_ℕ ρ q.this (give ρ fs q.others (lo (rest q.this) ρ < hi (rest q.this) ρ) g)

pub eq_from : (ρ : List ℤ) (fs : List Fact) {x y : ℤ} (q : Both (Sides ρ x y) (Quoted ρ fs)) → Given ρ fs q.others (lo (rest q.this) ρ ≡ hi (rest q.this) ρ) → x ≡ y
eq_from ρ fs q g = eq_by_ℕ ρ q.this (give ρ fs q.others (lo (rest q.this) ρ ≡ hi (rest q.this) ρ) g)

pub false_from : (ρ : List ℤ) (fs : List Fact) (q : Quoted ρ fs) → Given ρ fs q ⊥ → ⊥
false_from ρ fs q g = give ρ fs q ⊥ g
