-- Laws of `hypot_of`: signs and the order of its arguments do not matter, what it can be, and that it grows with each magnitude. Assumes nothing.
use Rattle.std.proofs.Common.{◌≡◌, not, T, ◌⊎◌, pos, sym, refl, ap, subst, ap₂, subst₂, inl, inr}
use lib.Ieee.{Float, nan, inf, fin, binary64, add, mul, le, is_nan, fits}
use lib.Ieee.Fits.{add-fits}
use Rattle.number.specs.Exact.{zeroᶠ}
use Rattle.number.specs.Root.{sqrt_of, Plus, plus_inf, plus_fin}
use Rattle.number.specs.Signs.{abs_of}
use Rattle.number.specs.Hypot.{hypot_of}
use Rattle.number.proofs.PlusLaws.{zero_le, plus_not_nan, add_swap, square_abs, add_plus, plus_add_mono, square_plus, square_mono}
use Rattle.number.proofs.SqrtLaws.{sqrt_plus, sqrt_mono}
use Rattle.number.proofs.CloseRoot.{sqrt_fits}

-- ---- the signs do not matter, nor does the order of the two
pub hypot_signs : (a b : Float) → hypot_of a b ≡ hypot_of (abs_of a) (abs_of b)
unfolding hypot_of
hypot_signs a b = ap₂ (λ (v w : Float). sqrt_of (add binary64 v w)) (square_abs a) (square_abs b)

pub hypot_swap : (a b : Float) → hypot_of a b ≡ hypot_of b a
unfolding hypot_of
hypot_swap a b = ap sqrt_of (add_swap binary64 (mul binary64 a a) (mul binary64 b b))

-- ---- what it can be
-- a double
pub hypot_fits : (a b : Float) → T (fits binary64 (hypot_of a b))
unfolding hypot_of
hypot_fits a b = sqrt_fits (add binary64 (mul binary64 a a) (mul binary64 b b)) (add-fits binary64 (mul binary64 a a) (mul binary64 b b))

-- a magnitude has no minus sign
pub nan_or_plus : (a : Float) → (a ≡ nan) ⊎ Plus (abs_of a)
unfolding abs_of
nan_or_plus nan = inl refl
nan_or_plus (inf s) = inr plus_inf
nan_or_plus (fin s m e) = inr (plus_fin m e)

-- of two that are no NaN it is +0, a number above zero, or +infinity
pub hypot_plus : (a b : Float) → T (not (is_nan a)) → T (not (is_nan b)) → Plus (hypot_of a b)
unfolding hypot_of is_nan
hypot_plus a b p q = go (nan_or_plus a) (nan_or_plus b)
  where
    go : (a ≡ nan) ⊎ Plus (abs_of a) → (b ≡ nan) ⊎ Plus (abs_of b) → Plus (hypot_of a b)
    go (inl e) k = absurd (subst (λ (v : Float). T (not (is_nan v))) e p)
    go (inr h) (inl e) = absurd (subst (λ (v : Float). T (not (is_nan v))) e q)
    go (inr h) (inr k) = subst Plus (sym (hypot_signs a b)) (sqrt_plus (add_plus (square_plus h) (square_plus k)))

pub hypot_not_nan : (a b : Float) → T (not (is_nan a)) → T (not (is_nan b)) → T (not (is_nan (hypot_of a b)))
hypot_not_nan a b p q = plus_not_nan (hypot_plus a b p q)

pub hypot_nonneg : (a b : Float) → T (not (is_nan a)) → T (not (is_nan b)) → T (le zeroᶠ (hypot_of a b))
hypot_nonneg a b p q = zero_le (pos 0) (hypot_plus a b p q)

-- ---- it grows with each magnitude
-- what is compared is no NaN
compared : (a c : Float) → T (le (abs_of a) (abs_of c)) → Plus (abs_of a) × Plus (abs_of c)
unfolding abs_of le
compared nan c h = absurd h
compared (inf s) nan h = absurd h
compared (inf s) (inf t) h = (plus_inf, plus_inf)
compared (inf s) (fin t n d) h = (plus_inf, plus_fin n d)
compared (fin s m e) nan h = absurd h
compared (fin s m e) (inf t) h = (plus_fin m e, plus_inf)
compared (fin s m e) (fin t n d) h = (plus_fin m e, plus_fin n d)

-- so do the sums of the squares
abbrev squares : Float → Float → Float
squares a b = add binary64 (mul binary64 a a) (mul binary64 b b)

squares_abs : (a b : Float) → squares a b ≡ squares (abs_of a) (abs_of b)
squares_abs a b = ap₂ (λ (v w : Float). add binary64 v w) (square_abs a) (square_abs b)

pub squares_mono : (a b c d : Float) → T (le (abs_of a) (abs_of c)) → T (le (abs_of b) (abs_of d)) → T (le (squares a b) (squares c d))
squares_mono a b c d h k =
    let p = compared a c h in
    let q = compared b d k in
    subst₂ (λ (v w : Float). T (le v w)) (sym (squares_abs a b)) (sym (squares_abs c d))
    (plus_add_mono (square_plus p.0) (square_plus q.0) (square_plus p.1) (square_plus q.1) (square_mono p.0 p.1 h) (square_mono q.0 q.1 k))

pub hypot_mono : (a b c d : Float) → T (le (abs_of a) (abs_of c)) → T (le (abs_of b) (abs_of d)) → T (le (hypot_of a b) (hypot_of c d))
unfolding hypot_of
hypot_mono a b c d h k =
    let p = compared a c h in
    let q = compared b d k in
    subst₂ (λ (v w : Float). T (le v w)) (sym (hypot_signs a b)) (sym (hypot_signs c d))
    (sqrt_mono (add_plus (square_plus p.0) (square_plus q.0)) (add_plus (square_plus p.1) (square_plus q.1))
    (subst₂ (λ (v w : Float). T (le v w)) (squares_abs a b) (squares_abs c d) (squares_mono a b c d h k)))
