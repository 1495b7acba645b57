-- The order of all floats that are no NaN, infinities included. Assumes nothing.
use Rattle.std.proofs.Common.{◌≡◌, ℕ, suc, ◌+◌, ◌-◌, ◌*◌, ◌^◌, ◌≤◌, Bool, true, false, not, T, ℤ, pos, negsuc, ◌*ℤ◌, sym, refl, subst, ⊎_elim, arith}
use lib.Ieee.{Float, nan, inf, fin, up, lt, eq, le, is_nan}
use lib.Ieee.Bits.{is_true}
use lib.Ieee.Scale.{finite}
use lib.Signed.{clash_ℤ}
use Rattle.algebra.specs.Order.{◌≦◌, ◌≺◌, ≤ℤ-trans, ≤ℤ-of-eq}
use Rattle.algebra.specs.Sign.{signed}
use Rattle.number.specs.Exact.{Is}
use Rattle.number.proofs.Basics.{or_l, or_r, or_split}
use Rattle.number.proofs.Operations.{equation→is, rescale}
use Rattle.number.proofs.Compare.{same_bool, lt_is, le_is, eq→, not_lt}
use Rattle.number.proofs.Tests.{le_not_nan}

-- ---- exact values and the order

pub is_order : {k : ℕ} {x y : Float} {z w : ℤ} → Is k x z → Is k y w → T (le x y) → z ≦ w
is_order h g t = record { le = subst T (le_is h g) t }

pub order_is : {k : ℕ} {x y : Float} {z w : ℤ} → Is k x z → Is k y w → z ≦ w → T (le x y)
order_is h g l = subst T (sym (le_is h g)) l.le

pub is_below : {k : ℕ} {x y : Float} {z w : ℤ} → Is k x z → Is k y w → T (lt x y) → z ≺ w
is_below h g t = record { lt = subst T (lt_is h g) t }

-- m * 2 ^ e has so many binary places
abbrev pub places : ℤ → ℕ
places (pos j) = 0
places (negsuc j) = suc j

-- every finite float is a whole number over any power of two that has its places
pub over : (s : Bool) (m : ℕ) (e : ℤ) {k : ℕ} → places e ≤ k → (z : ℤ) × Is k (fin s m e) z
over s m e {k} h = (signed s (m * up e) *ℤ pos (2 ^ (k - places e)), subst (λ (j : ℕ). Is j (fin s m e) (signed s (m * up e) *ℤ pos (2 ^ (k - places e)))) (omega arith) (rescale (k - places e) (own e)))
  where
    own : (e : ℤ) → Is (places e) (fin s m e) (signed s (m * up e))
    own (pos j) = equation→is (fin s m (pos j)) refl
    own (negsuc j) = equation→is (fin s m (negsuc j)) refl

-- ---- the order is total where there is no NaN

pub le_self : (x : Float) → T (not (is_nan x)) → T (le x x)
unfolding le lt eq is_nan
le_self nan n = absurd n
le_self (inf true) n = tt
le_self (inf false) n = tt
le_self (fin s m e) n = let x = over s m e {k = places e} (omega arith) in order_is x.1 x.1 (≤ℤ-of-eq refl)

-- what is not below is at least
pub not_below : (x y : Float) → T (not (is_nan x)) → T (not (is_nan y)) → lt x y ≡ false → T (le y x)
unfolding le lt eq is_nan
not_below nan y p q e = absurd p
not_below (inf s) nan p q e = absurd q
not_below (inf true) (inf true) p q e = tt
not_below (inf true) (inf false) p q e = absurd (subst T e tt)
not_below (inf false) (inf true) p q e = tt
not_below (inf false) (inf false) p q e = tt
not_below (inf true) (fin t n f) p q e = absurd (subst T e tt)
not_below (inf false) (fin t n f) p q e = tt
not_below (fin s m d) nan p q e = absurd q
not_below (fin s m d) (inf true) p q e = tt
not_below (fin s m d) (inf false) p q e = absurd (subst T e tt)
not_below (fin s m d) (fin t n f) p q e =
    let x = over s m d {k = places d + places f} (omega arith) in
    let y = over t n f {k = places d + places f} (omega arith) in
    order_is y.1 x.1 (not_lt (rw (lt_is x.1 y.1) at e))

least : (x : Float) → T (not (is_nan x)) → T (le (inf true) x)
unfolding le lt eq is_nan
least nan n = absurd n
least (inf true) n = tt
least (inf false) n = tt
least (fin s m e) n = tt

-- what is below is not at least
pub below_not_le : (x y : Float) → T (lt x y) → T (le y x) → ⊥
unfolding le lt eq
below_not_le nan y h k = h
below_not_le (inf s) nan h k = k
below_not_le (inf true) (inf true) h k = h
below_not_le (inf true) (inf false) h k = k
below_not_le (inf false) (inf t) h k = h
below_not_le (inf true) (fin t n f) h k = k
below_not_le (inf false) (fin t n f) h k = h
below_not_le (fin s m d) nan h k = k
below_not_le (fin s m d) (inf true) h k = h
below_not_le (fin s m d) (inf false) h k = k
below_not_le (fin s m d) (fin t n f) h k =
    let x = over s m d {k = places d + places f} (omega arith) in
    let y = over t n f {k = places d + places f} (omega arith) in
    clash_ℤ (is_below x.1 y.1 h) (is_order y.1 x.1 k)

-- what is below is at most, and so is what is equal
pub below_le : (x y : Float) → lt x y ≡ true → T (le x y)
unfolding le
below_le x y e = or_l (lt x y) (eq x y) (subst T (sym e) tt)

pub level_le : (x y : Float) → eq x y ≡ true → T (le x y)
unfolding le
level_le x y e = or_r (lt x y) (eq x y) (subst T (sym e) tt)

-- equal either way
pub level_ge : (x y : Float) → eq x y ≡ true → T (le y x)
unfolding le lt eq
level_ge nan y e = absurd (subst T (sym e) tt)
level_ge (inf s) nan e = absurd (subst T (sym e) tt)
level_ge (inf true) (inf true) e = tt
level_ge (inf true) (inf false) e = absurd (subst T (sym e) tt)
level_ge (inf false) (inf true) e = absurd (subst T (sym e) tt)
level_ge (inf false) (inf false) e = tt
level_ge (inf s) (fin t n f) e = absurd (subst T (sym e) tt)
level_ge (fin s m d) nan e = absurd (subst T (sym e) tt)
level_ge (fin s m d) (inf t) e = absurd (subst T (sym e) tt)
level_ge (fin s m d) (fin t n f) e =
    let x = over s m d {k = places d + places f} (omega arith) in
    let y = over t n f {k = places d + places f} (omega arith) in
    order_is y.1 x.1 (≤ℤ-of-eq (sym (eq→ x.1 y.1 (subst T (sym e) tt))))

-- what is at most is not above
pub le_not_below : (x y : Float) → T (le y x) → lt x y ≡ false
le_not_below x y h = go (lt x y) refl
  where
    go : (b : Bool) → lt x y ≡ b → b ≡ false
    go true e = absurd (below_not_le x y (subst T (sym e) tt) h)
    go false e = refl

-- what is at most, either way, is equal
pub le_level : (x y : Float) → T (le x y) → T (le y x) → T (eq x y)
unfolding le
le_level x y h k = ⊎_elim (λ l. absurd (below_not_le x y l k)) (λ e. e) (or_split (lt x y) (eq x y) h)

-- what is compared is no NaN
pub left_not_nan : (x y : Float) → T (le x y) → T (not (is_nan x))
unfolding le is_nan
left_not_nan nan y h = h
left_not_nan (inf s) y h = tt
left_not_nan (fin s m e) y h = tt

pub right_not_nan : (x y : Float) → T (le x y) → T (not (is_nan y))
right_not_nan x y h = le_not_nan x y (is_true (le x y) h)

pub le_through : (x y z : Float) → T (le x y) → T (le y z) → T (le x z)
unfolding le lt eq
le_through nan y z h k = absurd h
le_through (inf true) y z h k = least z (right_not_nan y z k)
le_through (inf false) nan z h k = absurd h
le_through (inf false) (inf true) z h k = absurd h
le_through (inf false) (inf false) z h k = k
le_through (inf false) (fin t n f) z h k = absurd h
le_through (fin s m d) nan z h k = absurd h
le_through (fin s m d) (inf true) z h k = absurd h
le_through (fin s m d) (inf false) nan h k = absurd k
le_through (fin s m d) (inf false) (inf true) h k = absurd k
le_through (fin s m d) (inf false) (inf false) h k = tt
le_through (fin s m d) (inf false) (fin u o g) h k = absurd k
le_through (fin s m d) (fin t n f) nan h k = absurd k
le_through (fin s m d) (fin t n f) (inf true) h k = absurd k
le_through (fin s m d) (fin t n f) (inf false) h k = tt
le_through (fin s m d) (fin t n f) (fin u o g) h k =
    let x = over s m d {k = places d + places f + places g} (omega arith) in
    let y = over t n f {k = places d + places f + places g} (omega arith) in
    let z = over u o g {k = places d + places f + places g} (omega arith) in
    order_is x.1 z.1 (≤ℤ-trans (is_order x.1 y.1 h) (is_order y.1 z.1 k))

pub below_through : (x y z : Float) → T (lt x y) → T (le y z) → T (lt x z)
below_through x y z h k = go (lt x z) refl
  where
    go : (b : Bool) → lt x z ≡ b → T b
    go true e = tt
    go false e = absurd (below_not_le x y h (le_through y z x k (not_below x z (left_not_nan x y (below_le x y (is_true (lt x y) h))) (right_not_nan y z k) e)))

pub through_below : (x y z : Float) → T (le x y) → T (lt y z) → T (lt x z)
through_below x y z h k = go (lt x z) refl
  where
    go : (b : Bool) → lt x z ≡ b → T b
    go true e = tt
    go false e = absurd (below_not_le y z k (le_through z x y (not_below x z (left_not_nan x y h) (right_not_nan y z (below_le y z (is_true (lt y z) k))) e) h))

-- ---- floats that are level, zeros of either sign among them: each is at most the other
pub level_self : (x : Float) → T (not (is_nan x)) → T (eq x x)
level_self x n = le_level x x (le_self x n) (le_self x n)

pub level_both : (x y : Float) → T (eq x y) → T (le x y) × T (le y x)
level_both x y h = let e = is_true (eq x y) h in (level_le x y e, level_ge x y e)

pub level_through : (x y z : Float) → T (eq x y) → T (eq y z) → T (eq x z)
level_through x y z h k =
    let p = level_both x y h in
    let q = level_both y z k in
    le_level x z (le_through x y z p.0 q.0) (le_through z y x q.1 p.1)

-- they are below the same floats, and at most the same
pub lt_level : (a a' b b' : Float) → T (le a a') → T (le a' a) → T (le b b') → T (le b' b) → lt a b ≡ lt a' b'
lt_level a a' b b' p q r s =
    same_bool (lt a b) (lt a' b')
    (λ h. below_through a' b b' (through_below a' a b q h) r)
    (λ h. below_through a b' b (through_below a a' b' p h) s)

pub at_most_level : (a a' b b' : Float) → T (le a a') → T (le a' a) → T (le b b') → T (le b' b) → le a b ≡ le a' b'
at_most_level a a' b b' p q r s =
    same_bool (le a b) (le a' b')
    (λ h. le_through a' a b' q (le_through a b b' h r))
    (λ h. le_through a a' b p (le_through a' b' b h s))

-- of two floats at most one is below the other
pub lt_asym : (x y : Float) → lt x y ≡ true → lt y x ≡ false
lt_asym x y e = le_not_below y x (below_le x y e)

-- between two finite floats there are only finite ones
pub finite_between : (lo x hi : Float) → T (finite lo) → T (finite hi) → T (le lo x) → T (le x hi) → T (finite x)
unfolding le lt eq
finite_between lo (inf false) nan p q h k = elim q [ ]
finite_between lo (inf false) (inf _) p q h k = elim q [ ]
finite_between nan (inf true) hi p q h k = elim p [ ]
finite_between (inf _) (inf true) hi p q h k = elim p [ ]
finite_between lo nan hi p q h k = absurd k
finite_between (fin s m d) (inf true) hi p q h k = absurd h
finite_between lo (inf false) (fin s m d) p q h k = absurd k
finite_between lo (fin s m d) hi p q h k = tt
