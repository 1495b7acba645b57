-- The normaliser of module Ring is sound. `ring_eq`: two expressions whose difference multiplies out to nothing have the same value at every environment. Assumes nothing.
use Rattle.std.specs.Prelude.{◌≡◌, refl, List, [], ◌∷◌, ℕ, zero, suc, ℤ, pos, negsuc, neg_ℤ, ◌+ℤ◌, ◌*ℤ◌}
use Rattle.std.proofs.Common.{sym, ◌∙◌, ap, ap₂, arith}
use Rattle.std.proofs.Math.IntN.{+ℤ_idl, +ℤ_idr, +ℤ_comm, +ℤ_assoc, zero-*ℤ, *ℤ-zero, *ℤ_comm}
use Rattle.algebra.specs.Int.{pos_part, neg_part, parts_eq, add_parts, pos_part_neg, neg_part_neg, *ℤ-assoc, *ℤ-+ℤ, +ℤ-*ℤ, *ℤ-one', negℤ_is}
use Rattle.algebra.specs.Ring.{Ex, var, num, add, mul, neg, nth, val, Pol, con, hor, ev, mk, add_c, padd, scale', scale, low, pmul, pvar, norm, Term, terms, Nothing, Same}

-- ---- soundness
swap4 : (a b c d : ℤ) → (a +ℤ b) +ℤ (c +ℤ d) ≡ (a +ℤ c) +ℤ (b +ℤ d)
swap4 a b c d = parts_eq ((a +ℤ b) +ℤ (c +ℤ d)) ((a +ℤ c) +ℤ (b +ℤ d))
    (omega (arith, add_parts (a +ℤ b) (c +ℤ d), add_parts a b, add_parts c d, add_parts (a +ℤ c) (b +ℤ d), add_parts a c, add_parts b d))

*-left-comm : (x y z : ℤ) → x *ℤ (y *ℤ z) ≡ y *ℤ (x *ℤ z)
*-left-comm x y z = sym (*ℤ-assoc x y z) ∙ ap (λ t. t *ℤ z) (*ℤ_comm x y) ∙ *ℤ-assoc y x z

plus_times_zero : (c x : ℤ) → c +ℤ x *ℤ pos 0 ≡ c
plus_times_zero c x = ap (λ t. c +ℤ t) (*ℤ-zero x) ∙ +ℤ_idr c

ev_mk : (c p : Pol) (ρ : List ℤ) → ev (mk c p) ρ ≡ ev (hor c p) ρ
ev_mk (con (pos zero)) (con (pos zero)) [] = refl
ev_mk (con (pos zero)) (con (pos zero)) (x ∷ ρ) = sym (plus_times_zero (pos 0) x)
ev_mk (con (pos zero)) (con (pos (suc n))) ρ = refl
ev_mk (con (pos zero)) (con (negsuc n)) ρ = refl
ev_mk (con (pos zero)) (hor d q) ρ = refl
ev_mk (con (pos (suc n))) p ρ = refl
ev_mk (con (negsuc n)) p ρ = refl
ev_mk (hor d q) p ρ = refl

ev_add_c : (k : ℤ) (p : Pol) (ρ : List ℤ) → ev (add_c k p) ρ ≡ k +ℤ ev p ρ
ev_add_c k (con a) ρ = refl
ev_add_c k (hor c p) [] = ev_add_c k c []
ev_add_c k (hor c p) (x ∷ ρ) = ap (λ t. t +ℤ x *ℤ ev p (x ∷ ρ)) (ev_add_c k c ρ) ∙ +ℤ_assoc k (ev c ρ) (x *ℤ ev p (x ∷ ρ))

ev_padd : (p q : Pol) (ρ : List ℤ) → ev (padd p q) ρ ≡ ev p ρ +ℤ ev q ρ
ev_padd (con a) q ρ = ev_add_c a q ρ
ev_padd (hor c p) (con b) ρ = ev_add_c b (hor c p) ρ ∙ +ℤ_comm b (ev (hor c p) ρ)
ev_padd (hor c p) (hor d q) [] = ev_mk (padd c d) (padd p q) [] ∙ ev_padd c d []
ev_padd (hor c p) (hor d q) (x ∷ ρ) = ev_mk (padd c d) (padd p q) (x ∷ ρ)
    ∙ ap₂ ◌+ℤ◌ (ev_padd c d ρ) (ap (λ t. x *ℤ t) (ev_padd p q (x ∷ ρ)) ∙ *ℤ-+ℤ x (ev p (x ∷ ρ)) (ev q (x ∷ ρ)))
    ∙ swap4 (ev c ρ) (ev d ρ) (x *ℤ ev p (x ∷ ρ)) (x *ℤ ev q (x ∷ ρ))

ev_scale' : (k : ℤ) (p : Pol) (ρ : List ℤ) → ev (scale' k p) ρ ≡ k *ℤ ev p ρ
ev_scale' k (con a) ρ = refl
ev_scale' k (hor c p) [] = ev_scale' k c []
ev_scale' k (hor c p) (x ∷ ρ) = ap₂ ◌+ℤ◌ (ev_scale' k c ρ) (ap (λ t. x *ℤ t) (ev_scale' k p (x ∷ ρ)) ∙ *-left-comm x k (ev p (x ∷ ρ)))
    ∙ sym (*ℤ-+ℤ k (ev c ρ) (x *ℤ ev p (x ∷ ρ)))

ev_scale : (k : ℤ) (p : Pol) (ρ : List ℤ) → ev (scale k p) ρ ≡ k *ℤ ev p ρ
ev_scale (pos zero) p ρ = sym (zero-*ℤ (ev p ρ))
ev_scale (pos (suc n)) p ρ = ev_scale' (pos (suc n)) p ρ
ev_scale (negsuc n) p ρ = ev_scale' (negsuc n) p ρ

ev_low_nil : (f : Pol → Pol) (c : Pol) → ((q : Pol) (ρ : List ℤ) → ev (f q) ρ ≡ ev c ρ *ℤ ev q ρ) → (q : Pol) → ev (low f q) [] ≡ ev c [] *ℤ ev q []
ev_low_nil f c h (con b) = ev_mk (f (con b)) (con (pos 0)) [] ∙ h (con b) []
ev_low_nil f c h (hor d q) = ev_mk (f d) (low f q) [] ∙ h d []

ev_low : (f : Pol → Pol) (c : Pol) → ((q : Pol) (ρ : List ℤ) → ev (f q) ρ ≡ ev c ρ *ℤ ev q ρ) → (q : Pol) (x : ℤ) (ρ : List ℤ) → ev (low f q) (x ∷ ρ) ≡ ev c ρ *ℤ ev q (x ∷ ρ)
ev_low f c h (con b) x ρ = ev_mk (f (con b)) (con (pos 0)) (x ∷ ρ) ∙ plus_times_zero (ev (f (con b)) ρ) x ∙ h (con b) ρ
ev_low f c h (hor d q) x ρ = ev_mk (f d) (low f q) (x ∷ ρ)
    ∙ ap₂ ◌+ℤ◌ (h d ρ) (ap (λ t. x *ℤ t) (ev_low f c h q x ρ) ∙ *-left-comm x (ev c ρ) (ev q (x ∷ ρ)))
    ∙ sym (*ℤ-+ℤ (ev c ρ) (ev d ρ) (x *ℤ ev q (x ∷ ρ)))

ev_pmul : (p q : Pol) (ρ : List ℤ) → ev (pmul p q) ρ ≡ ev p ρ *ℤ ev q ρ
ev_pmul (con a) q ρ = ev_scale a q ρ
ev_pmul (hor c p) (con b) ρ = ev_scale b (hor c p) ρ ∙ *ℤ_comm b (ev (hor c p) ρ)
ev_pmul (hor c p) (hor d q) [] = ev_padd (low (pmul c) (hor d q)) (mk (con (pos 0)) (pmul p (hor d q))) []
    ∙ ap₂ ◌+ℤ◌ (ev_low_nil (pmul c) c (ev_pmul c) (hor d q)) (ev_mk (con (pos 0)) (pmul p (hor d q)) []) ∙ +ℤ_idr (ev c [] *ℤ ev (hor d q) [])
ev_pmul (hor c p) (hor d q) (x ∷ ρ) = ev_padd (low (pmul c) (hor d q)) (mk (con (pos 0)) (pmul p (hor d q))) (x ∷ ρ)
    ∙ ap₂ ◌+ℤ◌ (ev_low (pmul c) c (ev_pmul c) (hor d q) x ρ) (ev_mk (con (pos 0)) (pmul p (hor d q)) (x ∷ ρ) ∙ +ℤ_idl (x *ℤ ev (pmul p (hor d q)) (x ∷ ρ)) ∙ ap (λ t. x *ℤ t) (ev_pmul p (hor d q) (x ∷ ρ)) ∙ sym (*ℤ-assoc x (ev p (x ∷ ρ)) (ev (hor d q) (x ∷ ρ))))
    ∙ sym (+ℤ-*ℤ (ev c ρ) (x *ℤ ev p (x ∷ ρ)) (ev (hor d q) (x ∷ ρ)))

ev_pvar : (i : ℕ) (ρ : List ℤ) → ev (pvar i) ρ ≡ nth ρ i
ev_pvar zero [] = refl
ev_pvar zero (x ∷ ρ) = +ℤ_idl (x *ℤ pos 1) ∙ *ℤ-one' x
ev_pvar (suc i) [] = ev_pvar i []
    ∙ nth_nil i
  where
    nth_nil : (i : ℕ) → nth [] i ≡ nth [] (suc i)
    nth_nil i = refl
ev_pvar (suc i) (x ∷ ρ) = plus_times_zero (ev (pvar i) ρ) x ∙ ev_pvar i ρ

pub norm_sound : (e : Ex) (ρ : List ℤ) → ev (norm e) ρ ≡ val e ρ
norm_sound (var i) ρ = ev_pvar i ρ
norm_sound (num k) ρ = refl
norm_sound (add a b) ρ = ev_padd (norm a) (norm b) ρ ∙ ap₂ ◌+ℤ◌ (norm_sound a ρ) (norm_sound b ρ)
norm_sound (mul a b) ρ = ev_pmul (norm a) (norm b) ρ ∙ ap₂ ◌*ℤ◌ (norm_sound a ρ) (norm_sound b ρ)
norm_sound (neg a) ρ = ev_scale' (negsuc 0) (norm a) ρ ∙ ap (λ t. negsuc 0 *ℤ t) (norm_sound a ρ) ∙ sym (negℤ_is (val a ρ))

hor_nil : (c p : Pol) → ((ρ : List ℤ) → ev c ρ ≡ pos 0) → ((ρ : List ℤ) → ev p ρ ≡ pos 0) → (ρ : List ℤ) → ev (hor c p) ρ ≡ pos 0
hor_nil c p f g [] = f []
hor_nil c p f g (x ∷ ρ) = ap₂ ◌+ℤ◌ (f ρ) (ap (λ t. x *ℤ t) (g (x ∷ ρ)) ∙ *ℤ-zero x)

terms_nil : (p : Pol) (i : ℕ) (m : List ℕ) (ts : List Term) → terms p i m ts ≡ [] → (ts ≡ []) × ((ρ : List ℤ) → ev p ρ ≡ pos 0)
terms_nil (con (pos zero)) i m ts e = (e, λ ρ. refl)
terms_nil (con (pos (suc n))) i m ts e = ((cc), λ ρ. (cc))
terms_nil (con (negsuc n)) i m ts e = ((cc), λ ρ. (cc))
terms_nil (hor c p) i m ts e =
    let h = terms_nil c (suc i) m (terms p i (i ∷ m) ts) e in
    let k = terms_nil p i (i ∷ m) ts h.0 in
    (k.0, λ ρ. hor_nil c p h.1 k.1 ρ)

nothing_nil : (ts : List Term) → Nothing ts → ts ≡ []
nothing_nil [] t = refl
nothing_nil (t ∷ ts) x = elim x [ ]

eq_of_sub : (x y : ℤ) → x +ℤ neg_ℤ y ≡ pos 0 → x ≡ y
eq_of_sub x y h = parts_eq x y (omega (arith, add_parts x (neg_ℤ y), pos_part_neg y, neg_part_neg y, ap pos_part h, ap neg_part h))

-- ---- the theorem: l − r multiplies out to nothing, so l and r have one value
pub ring_eq : (ρ : List ℤ) (l r : Ex) → Same l r → val l ρ ≡ val r ρ
ring_eq ρ l r t = eq_of_sub (val l ρ) (val r ρ)
    (sym (norm_sound (add l (neg r)) ρ) ∙ (terms_nil (norm (add l (neg r))) 0 [] [] (nothing_nil (terms (norm (add l (neg r))) 0 [] []) t)).1 ρ)
