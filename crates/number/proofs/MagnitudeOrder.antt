-- The magnitude, the minimum, the maximum, the clamp and the sign in the order of floats. Assumes nothing.
use Rattle.std.proofs.Common.{◌≡◌, ℕ, ◌*◌, Bool, true, false, cond, not, ◌&&◌, ◌||◌, T, ℤ, pos, sym, refl, subst, arith, ltb-true}
use lib.Ieee.{Float, nan, inf, fin, up, down, lt, eq, le, neg, is_nan}
use lib.Ieee.Scale.{finite}
use lib.Signed.{lt_z}
use Rattle.number.specs.Exact.{Is, zeroᶠ}
use Rattle.number.specs.Root.{Plus, plus_inf, plus_fin}
use Rattle.number.specs.Signs.{sign_bit, abs_of, stands_before, min_of, max_of, clamp_of}
use Rattle.number.proofs.Basics.{one_of}
use Rattle.number.proofs.Compare.{lt_is, le_of_signs, le_neg}
use Rattle.number.proofs.SignLaws.{abs_negates}
use Rattle.number.proofs.PlusLaws.{zero_le}
use Rattle.number.proofs.OrderLaws.{below_le, below_not_le, le_level, le_self, le_through, left_not_nan, level_ge, level_le, level_self, not_below, right_not_nan}

-- ---- the magnitude

pub le_abs : (x : Float) → T (not (is_nan x)) → T (le x (abs_of x))
unfolding abs_of is_nan le lt eq
le_abs nan n = absurd n
le_abs (inf true) n = tt
le_abs (inf false) n = tt
le_abs (fin false m e) n = le_self (fin false m e) tt
le_abs (fin true m e) n = le_of_signs (fin true m e) (fin false m e) tt tt

pub abs_nonneg : (x : Float) → T (not (is_nan x)) → T (le zeroᶠ (abs_of x))
unfolding abs_of is_nan le lt eq
abs_nonneg nan n = absurd n
abs_nonneg (inf s) n = tt
abs_nonneg (fin s m e) n = zero_le (pos 0) (plus_fin m e)

-- what is not negative, -0 included, has a magnitude that is no larger than it is
pub abs_at_most : (x c : Float) → T (le zeroᶠ x) → T (le x c) → T (le (abs_of x) c)
abs_at_most x c h k = subst (λ (v : Float). T (le v c)) (sym (abs_negates x)) (go (sign_bit x))
  where
    minus_zero : T (le (neg zeroᶠ) zeroᶠ)
    minus_zero = unfold neg le in tt

    go : (s : Bool) → T (le (cond s (neg x) x) c)
    go true = le_through (neg x) (neg zeroᶠ) c (le_neg zeroᶠ x h) (le_through (neg zeroᶠ) zeroᶠ c minus_zero (le_through zeroᶠ x c h k))
    go false = k

pub neg_le_abs : (x : Float) → T (not (is_nan x)) → T (le (neg x) (abs_of x))
unfolding abs_of is_nan neg le lt eq
neg_le_abs nan n = absurd n
neg_le_abs (inf true) n = tt
neg_le_abs (inf false) n = tt
neg_le_abs (fin false m e) n = le_of_signs (fin true m e) (fin false m e) tt tt
neg_le_abs (fin true m e) n = le_self (fin false m e) tt

pub level_abs : (x y : Float) → eq x y ≡ true → T (le (abs_of y) (abs_of x))
level_abs x y e =
    let n = left_not_nan x y (level_le x y e) in
    subst (λ (v : Float). T (le v (abs_of x))) (sym (abs_negates y)) (go n (sign_bit y))
  where
    go : T (not (is_nan x)) → (s : Bool) → T (le (cond s (neg y) y) (abs_of x))
    go n true = le_through (neg y) (neg x) (abs_of x) (le_neg x y (level_le x y e)) (neg_le_abs x n)
    go n false = le_through y x (abs_of x) (level_ge x y e) (le_abs x n)

-- what has a magnitude of at most a finite number is finite
pub abs_bounds : (x h : Float) → T (finite h) → T (le (abs_of x) h) → T (finite x)
unfolding abs_of le lt eq
abs_bounds nan h F l = absurd l
abs_bounds (inf s) nan F l = absurd l
abs_bounds (inf s) (inf t) F l = absurd F
abs_bounds (inf s) (fin t n e) F l = absurd l
abs_bounds (fin s m e) h F l = tt

-- the opposite has the same magnitude, and what has no sign is its own
pub abs_neg : (x : Float) → abs_of (neg x) ≡ abs_of x
unfolding abs_of neg
abs_neg nan = refl
abs_neg (inf s) = refl
abs_neg (fin s m e) = refl

pub abs_plus : {x : Float} → Plus x → abs_of x ≡ x
unfolding abs_of
abs_plus plus_inf = refl
abs_plus (plus_fin m e) = refl

-- ---- the maximum

-- it is one of the two
pub max_one_of : (P : Float → Type 0) {x y : Float} → P x → P y → P (max_of x y)
unfolding max_of
max_one_of P {x} {y} p q = go (is_nan x) (is_nan y || stands_before y x)
  where
    go : (b c : Bool) → P (cond b y (cond c x y))
    go true c = q
    go false true = p
    go false false = q

pub le_max_left : (x y : Float) → T (not (is_nan x)) → T (not (is_nan y)) → T (le x (max_of x y))
unfolding max_of stands_before
le_max_left x y p q = go (is_nan x) p (is_nan y) q (lt y x) refl (eq y x && sign_bit y)
  where
    go : (a : Bool) → T (not a) → (b : Bool) → T (not b) → (c : Bool) → lt y x ≡ c → (d : Bool) → T (le x (cond a y (cond (b || (c || d)) x y)))
    go true n b m c e d = absurd n
    go false n true m c e d = absurd m
    go false n false m true e d = le_self x p
    go false n false m false e true = le_self x p
    go false n false m false e false = not_below y x q p e

pub le_max_right : (x y : Float) → T (not (is_nan y)) → T (le y (max_of x y))
unfolding max_of stands_before
le_max_right x y q = go (is_nan x) (is_nan y) q (lt y x) refl (eq y x) refl (sign_bit y)
  where
    go : (a b : Bool) → T (not b) → (c : Bool) → lt y x ≡ c → (d : Bool) → eq y x ≡ d → (s : Bool) → T (le y (cond a y (cond (b || (c || (d && s))) x y)))
    go true b m c e d f s = le_self y q
    go false true m c e d f s = absurd m
    go false false m true e d f s = below_le y x e
    go false false m false e true f true = level_le y x f
    go false false m false e true f false = le_self y q
    go false false m false e false f s = le_self y q

-- where neither is a NaN, it is the second where the first is below it and the first where not, but for the sign of a zero
pub max_is_greater : (x y : Float) → T (not (is_nan x)) → T (not (is_nan y)) → T (eq (cond (lt x y) y x) (max_of x y))
max_is_greater x y p q =
    le_level (cond (lt x y) y x) (max_of x y)
    (one_of (λ v. T (le v (max_of x y))) (lt x y) (le_max_right x y q) (le_max_left x y p q))
    (max_one_of (λ v. T (le v (cond (lt x y) y x))) (first (lt x y) refl) (second (lt x y) refl))
  where
    first : (b : Bool) → lt x y ≡ b → T (le x (cond b y x))
    first true e = below_le x y e
    first false e = le_self x p

    second : (b : Bool) → lt x y ≡ b → T (le y (cond b y x))
    second true e = le_self y q
    second false e = not_below x y p q e

-- ---- the minimum

-- it is one of the two
pub min_one_of : (P : Float → Type 0) {x y : Float} → P x → P y → P (min_of x y)
unfolding min_of
min_one_of P {x} {y} p q = one_of P (is_nan x) q (one_of P (is_nan y || stands_before x y) p q)

-- where neither is a NaN, it is the second where that is below the first and the first where not, but for the sign of a zero
pub min_is_lesser : (x y : Float) → T (not (is_nan x)) → T (not (is_nan y)) → T (eq (cond (lt y x) y x) (min_of x y))
unfolding min_of stands_before
min_is_lesser x y p q = go (is_nan x) p (is_nan y) q (lt x y) refl (eq x y) refl (sign_bit x) (lt y x) refl
  where
    go : (a : Bool) → T (not a) → (b : Bool) → T (not b) → (c : Bool) → lt x y ≡ c → (d : Bool) → eq x y ≡ d → (s : Bool)
        → (g : Bool) → lt y x ≡ g → T (eq (cond g y x) (cond a y (cond (b || (c || (d && s))) x y)))
    go true n b m c e d f s g h = absurd n
    go false n true m c e d f s g h = absurd m
    go false n false m true e d f s true h = absurd (below_not_le x y (subst T (sym e) tt) (below_le y x h))
    go false n false m true e d f s false h = level_self x p
    go false n false m false e true f true true h = le_level y x (level_ge x y f) (level_le x y f)
    go false n false m false e true f true false h = level_self x p
    go false n false m false e true f false true h = level_self y q
    go false n false m false e true f false false h = le_level x y (not_below y x q p h) (not_below x y p q e)
    go false n false m false e false f s true h = level_self y q
    go false n false m false e false f s false h = le_level x y (not_below y x q p h) (not_below x y p q e)

-- ---- the clamp

pub clamp_inside : (x lo hi : Float) → T (not (is_nan x)) → T (le lo hi) → T (not (is_nan lo)) → T (le lo (clamp_of x lo hi)) × T (le (clamp_of x lo hi) hi)
unfolding clamp_of
clamp_inside x lo hi n h l = go (lt x lo) refl (lt hi x) refl
  where
    go : (a : Bool) → lt x lo ≡ a → (b : Bool) → lt hi x ≡ b → T (le lo (cond a lo (cond b hi x))) × T (le (cond a lo (cond b hi x)) hi)
    go true e b f = (le_self lo l, h)
    go false e true f = (h, le_self hi (right_not_nan lo hi h))
    go false e false f = (not_below x lo n l e, not_below hi x (right_not_nan lo hi h) n f)

-- it is one of the three
pub clamp_one_of : (P : Float → Type 0) {x lo hi : Float} → P x → P lo → P hi → P (clamp_of x lo hi)
unfolding clamp_of
clamp_one_of P {x} {lo} {hi} p l h = one_of P (lt x lo) l (one_of P (lt hi x) h p)

-- of exact values it is the clamp of whole numbers
pub clamp_is : {k : ℕ} {t lo hi : Float} {x l h : ℤ} → Is k t x → Is k lo l → Is k hi h → Is k (clamp_of t lo hi) (cond (lt_z x l) l (cond (lt_z h x) h x))
unfolding clamp_of
clamp_is {k} {t} {lo} {hi} {x} {l} {h} T L H = rw (lt_is T L, lt_is H T) (go (lt_z x l) (lt_z h x))
  where
    go : (b c : Bool) → Is k (cond b lo (cond c hi t)) (cond b l (cond c h x))
    go true c = L
    go false true = H
    go false false = T

-- ---- the sign bit of what is above zero, and of what is below
pub above_sign : (x : Float) → lt zeroᶠ x ≡ true → sign_bit x ≡ false
unfolding lt sign_bit
above_sign nan h = refl
above_sign (inf true) h = absurd (subst T (sym h) tt)
above_sign (inf false) h = refl
above_sign (fin true m e) h = absurd (subst T (sym h) tt)
above_sign (fin false m e) h = refl

pub under_sign : (x : Float) → lt x zeroᶠ ≡ true → sign_bit x ≡ true
unfolding lt sign_bit
under_sign nan h = absurd (subst T (sym h) tt)
under_sign (inf true) h = refl
under_sign (inf false) h = absurd (subst T (sym h) tt)
under_sign (fin true m e) h = refl
under_sign (fin false m e) h = absurd (omega (arith, ltb-true (m * up e * 1) (0 * 1 * down e) h))
