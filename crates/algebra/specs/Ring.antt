-- A solver for identities of commutative rings over ℤ (and of semirings over ℕ), by reflection.
-- An expression `Ex` over numbered variables is multiplied out to a polynomial `Pol` in Horner's form, which antt computes quickly.
-- `ring_eq`: two expressions whose difference multiplies out to nothing have the same value at every environment.
-- Use it by `ring` of module Quote, which needs no expression to be written.
use Rattle.std.specs.Prelude.{List, [], ◌∷◌, ℕ, zero, suc, ℤ, pos, negsuc, neg_ℤ, ◌+ℤ◌, ◌*ℤ◌}

-- ---- expressions
pub data Ex : Type 0 where
  var : ℕ → Ex
  num : ℤ → Ex
  add : Ex → Ex → Ex
  mul : Ex → Ex → Ex
  neg : Ex → Ex

abbrev pub nth : List ℤ → ℕ → ℤ
nth [] i = pos 0
nth (x ∷ ρ) zero = x
nth (x ∷ ρ) (suc i) = nth ρ i

abbrev pub val : Ex → List ℤ → ℤ
val (var i) ρ = nth ρ i
val (num k) ρ = k
val (add a b) ρ = val a ρ +ℤ val b ρ
val (mul a b) ρ = val a ρ *ℤ val b ρ
val (neg a) ρ = neg_ℤ (val a ρ)

-- ---- polynomials: `hor c p` is c + x · p, where x is the first variable and c has only the later ones
pub data Pol : Type 0 where
  con : ℤ → Pol
  hor : Pol → Pol → Pol

abbrev pub ev : Pol → List ℤ → ℤ
ev (con k) ρ = k
ev (hor c p) [] = ev c []
ev (hor c p) (x ∷ ρ) = ev c ρ +ℤ x *ℤ ev p (x ∷ ρ)

-- `hor`, but 0 + x · 0 is 0
abbrev pub mk : Pol → Pol → Pol
mk (con (pos zero)) (con (pos zero)) = con (pos 0)
mk (con (pos zero)) (con (pos (suc n))) = hor (con (pos 0)) (con (pos (suc n)))
mk (con (pos zero)) (con (negsuc n)) = hor (con (pos 0)) (con (negsuc n))
mk (con (pos zero)) (hor d q) = hor (con (pos 0)) (hor d q)
mk (con (pos (suc n))) p = hor (con (pos (suc n))) p
mk (con (negsuc n)) p = hor (con (negsuc n)) p
mk (hor d q) p = hor (hor d q) p

abbrev pub add_c : ℤ → Pol → Pol
add_c k (con a) = con (k +ℤ a)
add_c k (hor c p) = hor (add_c k c) p

abbrev pub padd : Pol → Pol → Pol
padd (con a) q = add_c a q
padd (hor c p) (con b) = hor (add_c b c) p
padd (hor c p) (hor d q) = mk (padd c d) (padd p q)

abbrev pub scale' : ℤ → Pol → Pol
scale' k (con a) = con (k *ℤ a)
scale' k (hor c p) = hor (scale' k c) (scale' k p)

abbrev pub scale : ℤ → Pol → Pol
scale (pos zero) q = con (pos 0)
scale (pos (suc n)) q = scale' (pos (suc n)) q
scale (negsuc n) q = scale' (negsuc n) q

-- f is the product by a polynomial of the later variables
abbrev pub low : (Pol → Pol) → Pol → Pol
low f (con b) = mk (f (con b)) (con (pos 0))
low f (hor d q) = mk (f d) (low f q)

abbrev pub pmul : Pol → Pol → Pol
pmul (con a) q = scale a q
pmul (hor c p) (con b) = scale b (hor c p)
pmul (hor c p) (hor d q) = padd (low (pmul c) (hor d q)) (mk (con (pos 0)) (pmul p (hor d q)))

abbrev pub pvar : ℕ → Pol
pvar zero = hor (con (pos 0)) (con (pos 1))
pvar (suc i) = hor (pvar i) (con (pos 0))

abbrev pub norm : Ex → Pol
norm (var i) = pvar i
norm (num k) = con k
norm (add a b) = padd (norm a) (norm b)
norm (mul a b) = pmul (norm a) (norm b)
norm (neg a) = scale' (negsuc 0) (norm a)

-- ---- the test: what is left of a polynomial, as a list of terms, each a coefficient and the places of its factors. Where nothing is left the type is `Unit`, and `tt` proves it.
-- Where something is left, antt's refusal shows it: `Left-over (term (pos 2) (1 ∷ 0 ∷ []) ∷ [])` is 2 · x₁ · x₀
pub data Term : Type 0 where
  term : ℤ → List ℕ → Term

abbrev pub terms : Pol → ℕ → List ℕ → List Term → List Term
terms (con (pos zero)) i m ts = ts
terms (con (pos (suc n))) i m ts = term (pos (suc n)) m ∷ ts
terms (con (negsuc n)) i m ts = term (negsuc n) m ∷ ts
terms (hor c p) i m ts = terms c (suc i) m (terms p i (i ∷ m) ts)

pub data Left-over : List Term → Type 0 where

abbrev pub Nothing : List Term → Type 0
Nothing [] = Unit {0}
Nothing (t ∷ ts) = Left-over (t ∷ ts)

abbrev pub Same : Ex → Ex → Type 0
Same l r = Nothing (terms (norm (add l (neg r))) 0 [] [])
