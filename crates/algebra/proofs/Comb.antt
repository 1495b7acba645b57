-- Orders over ℤ by a written combination, for what is past `omega`'s bounds (64 atoms, so some 32 monomials, and 31 facts): right − left is k₁ times the
-- first fact's (right − left), and k₂ times the second's, and so on, and c. `ring`'s normaliser checks it, and there is no bound on the monomials.
-- `le_comb ρ (le h ∷ le (mul_le h k) ∷ []) (2 ∷ 1 ∷ []) 0 (search quote depth 30) tt`
-- To find the numbers, put `?` for `tt` and check with --allow-holes: the goal shows what is left over.
use Rattle.std.specs.Prelude.{◌≡◌, List, [], ◌∷◌, ℕ, ℤ, pos, negsuc, neg_ℤ, ◌+ℤ◌}
use Rattle.std.proofs.Common.{ap}
use Rattle.algebra.specs.Int.{pos_part, neg_part, add_parts, pos_part_neg, neg_part_neg}
use Rattle.algebra.specs.Ring.{Ex, add, mul, neg, num, val, Same}
use Rattle.algebra.proofs.RingLaws.{ring_eq}
use Rattle.algebra.proofs.Quote.{Sides, Both}
use Rattle.algebra.specs.Order.{◌≦◌, ◌≺◌, ord, mul_nonneg, pos_nonneg, ≤ℤ-of-eq}
use Rattle.algebra.proofs.Lin.{Fact, le, lt, eq, Side, Quoted}

-- right − left of a fact, which is not negative; one less where the order is strict
abbrev pub gap : (ρ : List ℤ) (f : Fact) → Side ρ f → Ex
gap ρ (le h) s = add s.right.ex (neg s.left.ex)
gap ρ (lt h) s = add (add s.right.ex (neg s.left.ex)) (num (negsuc 0))
gap ρ (eq h) s = add s.right.ex (neg s.left.ex)

abbrev pub head : List ℕ → ℕ
head [] = 0
head (k ∷ ks) = k

abbrev pub tail : List ℕ → List ℕ
tail [] = []
tail (k ∷ ks) = ks

abbrev pub scaled_fact : (ρ : List ℤ) (ks : List ℕ) (f : Fact) → Side ρ f → Ex
scaled_fact ρ ks f s = mul (num (pos (head ks))) (gap ρ f s)

abbrev pub combination : (ρ : List ℤ) (fs : List Fact) → Quoted ρ fs → List ℕ → Ex
combination ρ [] q ks = num (pos 0)
combination ρ (f ∷ []) q ks = scaled_fact ρ ks f q
combination ρ (f ∷ g ∷ []) q ks = add (scaled_fact ρ ks f q.this) (scaled_fact ρ (tail ks) g q.others)
combination ρ (f ∷ g ∷ h ∷ []) q ks = add (scaled_fact ρ ks f q.this) (add (scaled_fact ρ (tail ks) g q.others.this) (scaled_fact ρ (tail (tail ks)) h q.others.others))
combination ρ (f ∷ g ∷ h ∷ k ∷ fs) q ks = add (add (scaled_fact ρ ks f q.first) (scaled_fact ρ (tail ks) g q.second))
    (add (add (scaled_fact ρ (tail (tail ks)) h q.third) (scaled_fact ρ (tail (tail (tail ks))) k q.fourth)) (combination ρ fs q.others (tail (tail (tail (tail ks))))))

-- ---- soundness
add_nonneg : {x y : ℤ} → pos 0 ≦ x → pos 0 ≦ y → pos 0 ≦ x +ℤ y
add_nonneg {x} {y} h k = omega (ord, add_parts x y)

diff : (x y a b : ℤ) → x ≡ a → y ≡ b → a ≦ b → pos 0 ≦ y +ℤ neg_ℤ x
diff x y a b p q h = omega (ord, add_parts y (neg_ℤ x), pos_part_neg x, neg_part_neg x, ap pos_part p, ap neg_part p, ap pos_part q, ap neg_part q)

diff_lt : (x y a b : ℤ) → x ≡ a → y ≡ b → a ≺ b → pos 0 ≦ (y +ℤ neg_ℤ x) +ℤ negsuc 0
diff_lt x y a b p q h = omega (ord, add_parts (y +ℤ neg_ℤ x) (negsuc 0), add_parts y (neg_ℤ x), pos_part_neg x, neg_part_neg x, ap pos_part p, ap neg_part p, ap pos_part q, ap neg_part q)

gap_nonneg : (ρ : List ℤ) (f : Fact) (s : Side ρ f) → pos 0 ≦ val (gap ρ f s) ρ
gap_nonneg ρ (le {x = x} {y = y} h) s = diff (val s.left.ex ρ) (val s.right.ex ρ) x y s.left.is s.right.is h
gap_nonneg ρ (lt {x = x} {y = y} h) s = diff_lt (val s.left.ex ρ) (val s.right.ex ρ) x y s.left.is s.right.is h
gap_nonneg ρ (eq {x = x} {y = y} h) s = diff (val s.left.ex ρ) (val s.right.ex ρ) x y s.left.is s.right.is (≤ℤ-of-eq h)

times_nonneg : (ρ : List ℤ) (ks : List ℕ) (f : Fact) (s : Side ρ f) → pos 0 ≦ val (scaled_fact ρ ks f s) ρ
times_nonneg ρ ks f s = mul_nonneg (pos_nonneg (head ks)) (gap_nonneg ρ f s)

total_nonneg : (ρ : List ℤ) (fs : List Fact) (q : Quoted ρ fs) (ks : List ℕ) → pos 0 ≦ val (combination ρ fs q ks) ρ
total_nonneg ρ [] q ks = pos_nonneg 0
total_nonneg ρ (f ∷ []) q ks = times_nonneg ρ ks f q
total_nonneg ρ (f ∷ g ∷ []) q ks = add_nonneg (times_nonneg ρ ks f q.this) (times_nonneg ρ (tail ks) g q.others)
total_nonneg ρ (f ∷ g ∷ h ∷ []) q ks = add_nonneg (times_nonneg ρ ks f q.this) (add_nonneg (times_nonneg ρ (tail ks) g q.others.this) (times_nonneg ρ (tail (tail ks)) h q.others.others))
total_nonneg ρ (f ∷ g ∷ h ∷ k ∷ fs) q ks = add_nonneg (add_nonneg (times_nonneg ρ ks f q.first) (times_nonneg ρ (tail ks) g q.second))
    (add_nonneg (add_nonneg (times_nonneg ρ (tail (tail ks)) h q.third) (times_nonneg ρ (tail (tail (tail ks))) k q.fourth)) (total_nonneg ρ fs q.others (tail (tail (tail (tail ks))))))

finish : (x y a b t : ℤ) (c : ℕ) → x ≡ a → y ≡ b → pos 0 ≦ t → y +ℤ neg_ℤ x ≡ t +ℤ pos c → a ≦ b
finish x y a b t c p q h e = omega (ord, add_parts y (neg_ℤ x), pos_part_neg x, neg_part_neg x, add_parts t (pos c), ap pos_part p, ap neg_part p, ap pos_part q, ap neg_part q, ap pos_part e, ap neg_part e)

-- ---- the theorems
pub le_comb : (ρ : List ℤ) (fs : List Fact) (ks : List ℕ) (c : ℕ) {x y : ℤ} (q : Both (Sides ρ x y) (Quoted ρ fs)) → Same (add q.this.right.ex (neg q.this.left.ex)) (add (combination ρ fs q.others ks) (num (pos c))) → x ≦ y
le_comb ρ fs ks c {x} {y} q t = finish (val q.this.left.ex ρ) (val q.this.right.ex ρ) x y (val (combination ρ fs q.others ks) ρ) c q.this.left.is q.this.right.is
    (total_nonneg ρ fs q.others ks) (ring_eq ρ (add q.this.right.ex (neg q.this.left.ex)) (add (combination ρ fs q.others ks) (num (pos c))) t)
