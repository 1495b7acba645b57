-- Exact values compared: `<`, `<=` and `==` on floats are those of the whole numbers. Assumes nothing.
use Rattle.std.proofs.Common.{◌≡◌, ℕ, ◌*◌, ◌^◌, Bool, true, false, not, ◌&&◌, ◌||◌, T, [], ◌∷◌, ℤ, pos, ◌*ℤ◌, neg_ℤ, sym, refl, ap, ◌∙◌, subst, ap₂, ⊎_elim, arith, T_not, pow_pos}
use mathlib.Core.Bool.{beq}
use lib.Dec.{not_T}
use lib.Signed.{lt_z, le_z, lt_z_yes, lt_z_no, clash_ℤ}
use lib.Ieee.{Float, nan, inf, fin, up, down, below, level, lt, eq, le, neg}
use lib.Ieee.Fits.{down_pos, and_l, and_r, and_i}
use Rattle.algebra.proofs.Quote.{quote}
use Rattle.algebra.proofs.Lin as L
use Rattle.algebra.proofs.Lin.{le_from}
use Rattle.algebra.specs.Order.{◌≦◌, ◌≺◌, ≤ℤ-or-<ℤ, ≤ℤ-antisym, ≤ℤ-of-eq, <ℤ→≤ℤ, negℤ_anti, pos_lt, pos_nonneg, mul_pos}
use Rattle.algebra.proofs.Mono.{mul_mono, mul_cancel}
use Rattle.algebra.specs.Sign.{signed}
use Rattle.algebra.proofs.SignedLaws.{neg_signed, mul_signed_pos, below_signed, signed_below, level_signed, signed_level}
use Rattle.number.specs.Exact.{Is, eq_z}
use Rattle.number.proofs.Operations.{Equation, is→equation}

-- two tests that pass together are equal
pub same_bool : (b c : Bool) → (T b → T c) → (T c → T b) → b ≡ c
same_bool true true f g = refl
same_bool true false f g = absurd (f tt)
same_bool false true f g = absurd (g tt)
same_bool false false f g = refl

-- ---- the tests of whole numbers
pub eq_z→ : {z w : ℤ} → T (eq_z z w) → z ≡ w
eq_z→ {z} {w} t = ≤ℤ-antisym (record { le = and_l (le_z z w) (le_z w z) t }) (record { le = and_r (le_z z w) (le_z w z) t })

pub →eq_z : {z w : ℤ} → z ≡ w → T (eq_z z w)
→eq_z {z} {w} e = and_i (le_z z w) (le_z w z) (≤ℤ-of-eq e).le (≤ℤ-of-eq (sym e)).le

pub lt_true : {z w : ℤ} → z ≺ w → lt_z z w ≡ true
lt_true {z} {w} h = same_bool (lt_z z w) true (λ t. tt) (λ t. h.lt)

pub lt_false : {z w : ℤ} → w ≦ z → lt_z z w ≡ false
lt_false {z} {w} h = same_bool (lt_z z w) false (λ t. clash_ℤ {a = z} {b = w} (record { lt = t }) h) (λ t. absurd t)

pub is_lt : {z w : ℤ} → lt_z z w ≡ true → z ≺ w
is_lt e = lt_z_yes (subst T (sym e) tt)

pub not_lt : {z w : ℤ} → lt_z z w ≡ false → w ≦ z
not_lt e = lt_z_no (subst (λ (b : Bool). T (not b)) (sym e) tt)

pub le_true : {z w : ℤ} → z ≦ w → le_z z w ≡ true
le_true {z} {w} h = same_bool (le_z z w) true (λ t. tt) (λ t. h.le)

pub eq_false : {z w : ℤ} → w ≺ z → eq_z z w ≡ false
eq_false {z} {w} h = same_bool (eq_z z w) false (λ t. clash_ℤ h (record { le = and_l (le_z z w) (le_z w z) t })) (λ t. absurd t)

lt_not_le : (z w : ℤ) → lt_z z w ≡ not (le_z w z)
lt_not_le z w = same_bool (lt_z z w) (not (le_z w z))
    (λ t. not_T (le_z w z) (λ u. clash_ℤ {a = z} {b = w} (record { lt = t }) (record { le = u })))
    (λ t. ⊎_elim (λ (h : w ≦ z). absurd (T_not (le_z w z) t h.le)) (λ (h : z ≺ w). h.lt) (≤ℤ-or-<ℤ w z))

lt_or_eq : (z w : ℤ) → (lt_z z w || eq_z z w) ≡ le_z z w
lt_or_eq z w = rw (lt_not_le z w) (go (le_z z w) (le_z w z) (λ t. ⊎_elim (λ (h : z ≦ w). absurd (T_not (le_z z w) t h.le)) (λ (h : w ≺ z). (<ℤ→≤ℤ h).le) (≤ℤ-or-<ℤ z w)))
  where
    go : (p q : Bool) → (T (not p) → T q) → (not q || p && q) ≡ p
    go true true f = refl
    go true false f = refl
    go false true f = refl
    go false false f = absurd (f tt)

same_order : {a b z w : ℤ} → (a ≦ b → z ≦ w) → (z ≦ w → a ≦ b) → le_z a b ≡ le_z z w
same_order {a} {b} {z} {w} f g = same_bool (le_z a b) (le_z z w) (λ t. (f (record { le = t })).le) (λ t. (g (record { le = t })).le)

-- ---- two finite floats, by their numerators over one denominator
module _ (s t : Bool) (m n : ℕ) (d f : ℤ) where
  abbrev left : ℤ
  left = signed s (m * up d * down f)

  abbrev right : ℤ
  right = signed t (n * up f * down d)

  lt_fin : lt (fin s m d) (fin t n f) ≡ lt_z left right
  unfolding lt
  lt_fin = same_bool (below s (m * up d * down f) t (n * up f * down d)) (lt_z left right)
      (λ u. (below_signed s t (m * up d * down f) (n * up f * down d) u).lt)
      (λ u. signed_below s t (m * up d * down f) (n * up f * down d) (record { lt = u }))

  eq_fin : eq (fin s m d) (fin t n f) ≡ eq_z left right
  unfolding eq
  eq_fin = same_bool (level s (m * up d * down f) t (n * up f * down d)) (eq_z left right)
      (λ u. →eq_z (level_signed s t (m * up d * down f) (n * up f * down d) u))
      (λ u. signed_level s t (m * up d * down f) (n * up f * down d) (eq_z→ u))

  le_fin : le (fin s m d) (fin t n f) ≡ le_z left right
  unfolding le
  le_fin = ap₂ ◌||◌ lt_fin eq_fin ∙ lt_or_eq left right

  -- the order of the values z / 2 ^ k and w / 2 ^ k is that of the numerators
  cross : (k : ℕ) (z w : ℤ) → Equation k (fin s m d) z → Equation k (fin t n f) w → le_z left right ≡ le_z z w
  cross k z w h g =
      ap₂ le_z (sym (mul_signed_pos s (m * up d) (down f))) (sym (mul_signed_pos t (n * up f) (down d)))
      ∙ scaled (signed s (m * up d)) (signed t (n * up f)) z w (pos (down d)) (pos (down f)) (pos (2 ^ k)) (pos_lt (down_pos d)) (pos_lt (down_pos f)) (pos_lt (pow_pos k)) h g
    where
      scaled : (a b z w d f p : ℤ) → pos 0 ≺ d → pos 0 ≺ f → pos 0 ≺ p → a *ℤ p ≡ z *ℤ d → b *ℤ p ≡ w *ℤ f → le_z (a *ℤ f) (b *ℤ d) ≡ le_z z w
      scaled a b z w d f p D F P h g =
          let ρ = a ∷ b ∷ z ∷ w ∷ d ∷ f ∷ p ∷ [] in
          let hf = ap (λ (v : ℤ). v *ℤ f) h in
          let gd = ap (λ (v : ℤ). v *ℤ d) g in
          same_order
          (λ (u : a *ℤ f ≦ b *ℤ d). mul_cancel (d *ℤ f) z w (mul_pos D F) (le_from ρ (L.le (mul_mono p (<ℤ→≤ℤ P) u) ∷ L.eq hf ∷ L.eq gd ∷ []) (search quote depth 30) (omega arith)))
          (λ (u : z ≦ w). mul_cancel p (a *ℤ f) (b *ℤ d) P (le_from ρ (L.le (mul_mono (d *ℤ f) (<ℤ→≤ℤ (mul_pos D F)) u) ∷ L.eq hf ∷ L.eq gd ∷ []) (search quote depth 30) (omega arith)))

pub compare_is : {k : ℕ} {x y : Float} {z w : ℤ} → Is k x z → Is k y w → (lt x y ≡ lt_z z w) × (eq x y ≡ eq_z z w) × (le x y ≡ le_z z w)
compare_is {k} {x} {y} {z} {w} h g = at x y (is→equation h) (is→equation g)
  where
    at : (x y : Float) → Equation k x z → Equation k y w → (lt x y ≡ lt_z z w) × (eq x y ≡ eq_z z w) × (le x y ≡ le_z z w)
    at nan _ h g = elim h [ ]
    at (inf _) _ h g = elim h [ ]
    at (fin s m d) nan h g = elim g [ ]
    at (fin s m d) (inf _) h g = elim g [ ]
    at (fin s m d) (fin t n f) h g =
        let zw = cross s t m n d f k z w h g in
        let wz = cross t s n m f d k w z g h in (
          lt_fin s t m n d f ∙ lt_not_le (left s t m n d f) (right s t m n d f) ∙ ap not wz ∙ sym (lt_not_le z w),
          eq_fin s t m n d f ∙ ap₂ ◌&&◌ zw wz,
          le_fin s t m n d f ∙ zw,
        )

pub lt_is : {k : ℕ} {x y : Float} {z w : ℤ} → Is k x z → Is k y w → lt x y ≡ lt_z z w
lt_is h g = (compare_is h g).0

pub eq_is : {k : ℕ} {x y : Float} {z w : ℤ} → Is k x z → Is k y w → eq x y ≡ eq_z z w
eq_is h g = (compare_is h g).1

pub le_is : {k : ℕ} {x y : Float} {z w : ℤ} → Is k x z → Is k y w → le x y ≡ le_z z w
le_is h g = (compare_is h g).2

pub eq→ : {k : ℕ} {x y : Float} {z w : ℤ} → Is k x z → Is k y w → T (eq x y) → z ≡ w
eq→ h g t = eq_z→ (subst T (eq_is h g) t)

pub →eq : {k : ℕ} {x y : Float} {z w : ℤ} → Is k x z → Is k y w → z ≡ w → T (eq x y)
→eq h g e = subst T (sym (eq_is h g)) (→eq_z e)

-- ---- signs, of the infinities too

-- no NaN, and of the sign s
abbrev pub HasSign : Float → Bool → Type 0
HasSign nan s = ⊥
HasSign (inf t) s = T (beq t s)
HasSign (fin t m e) s = T (beq t s)

pub le_of_signs : (x y : Float) → HasSign x true → HasSign y false → T (le x y)
unfolding le lt eq
le_of_signs nan y p q = elim p [ ]
le_of_signs (inf false) y p q = elim p [ ]
le_of_signs (inf true) nan p q = elim q [ ]
le_of_signs (inf true) (inf true) p q = elim q [ ]
le_of_signs (inf true) (fin true n f) p q = elim q [ ]
le_of_signs (fin false m d) y p q = elim p [ ]
le_of_signs (fin true m d) nan p q = elim q [ ]
le_of_signs (fin true m d) (inf true) p q = elim q [ ]
le_of_signs (fin true m d) (fin true n f) p q = elim q [ ]
le_of_signs (inf true) (inf false) p q = tt
le_of_signs (inf true) (fin false n f) p q = tt
le_of_signs (fin true m d) (inf false) p q = tt
le_of_signs (fin true m d) (fin false n f) p q = subst T (sym (le_fin true false m n d f)) (go (m * up d * down f) (n * up f * down d)).le
  where
    go : (a b : ℕ) → neg_ℤ (pos a) ≦ pos b
    go a b = le_from (pos a ∷ pos b ∷ []) (L.le (pos_nonneg a) ∷ L.le (pos_nonneg b) ∷ []) (search quote depth 30) (omega arith)

-- negation turns the order round
pub le_neg : (x y : Float) → T (le x y) → T (le (neg y) (neg x))
unfolding le lt eq neg
le_neg nan y h = absurd h
le_neg (inf s) nan h = absurd h
le_neg (fin s m d) nan h = absurd h
le_neg (inf false) (inf false) h = tt
le_neg (inf false) (inf true) h = absurd h
le_neg (inf true) (inf false) h = tt
le_neg (inf true) (inf true) h = tt
le_neg (inf false) (fin t n f) h = absurd h
le_neg (inf true) (fin t n f) h = tt
le_neg (fin s m d) (inf false) h = tt
le_neg (fin s m d) (inf true) h = absurd h
le_neg (fin s m d) (fin t n f) h =
    let a = signed s (m * up d * down f) in
    let b = signed t (n * up f * down d) in
    let l : a ≦ b = record { le = subst T (le_fin s t m n d f) h } in
    subst T (sym (le_fin (not t) (not s) n m f d))
    (subst (λ (v : ℤ). T (le_z v (signed (not s) (m * up d * down f)))) (neg_signed t (n * up f * down d))
    (subst (λ (v : ℤ). T (le_z (neg_ℤ b) v)) (neg_signed s (m * up d * down f)) (negℤ_anti l).le))
