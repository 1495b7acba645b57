-- Of magnitudes D by number: the least, the lowest number among equals. Keeping the better of two finds it in any order, and there is only one. Assumes nothing.
use mathlib.Core.Path.{◌≡◌, refl, sym, ap, ap₂, ◌∙◌, subst}
use mathlib.Core.Bool.{Bool, true, false, cond, ◌&&◌, ◌||◌}
use mathlib.Core.List.{List, [], ◌∷◌}
use Prim.Native.Nat.{ℕ, zero, suc, ◌+◌, ◌-◌, ◌≤◌, ◌<◌}
use native.Mathlib.Decide.{ℕ_discrete}
use native.Mathlib.Nat.{le_antisymm}
use native.Mathlib.Omega.{arith}
use borrow.Author.Tests.{ltb-true, ltb-false}
use lib.Dec.{T, ltb}
use lib.Ieee.{Float, lt, le, eq}
use Rattle.number.proofs.OrderLaws.{le_self, le_through, le_level, level_le, not_below, below_le, below_not_le}
use Rattle.lists.specs.Lists.{run, fold, times, In}
use Rattle.boundary.proofs.AroundLaws.{NotNan}
use Rattle.lists.proofs.MemberLaws.{in_cons, in_first, in_rest}
use Rattle.search.specs.declared.Best.{Best}
use Rattle.search.specs.Least.{closer, least_of}
use Rattle.search.specs.Walk.{improved, best_of}

module _ (D : ℕ → Float) where
  -- b is at most the i-th, and not of a higher number where the two are equal
  pub record Upto (b : Best) (i : ℕ) : Type 0 where
    pub least : T (le b.distance (D i))
    pub first : T (le (D i) b.distance) → b.outline ≤ i

  -- b is one of those numbered up to n
  pub record Among (n : ℕ) (b : Best) : Type 0 where
    pub within : b.outline ≤ n
    pub is : b.distance ≡ D b.outline

  abbrev pub this : ℕ → Best
  this k = record { outline = k; distance = D k }

  pub among_this : (n k : ℕ) → k ≤ n → Among n (this k)
  among_this n k h = record { within = h; is = refl }

  pub upto_this : (k : ℕ) → NotNan (D k) → Upto (this k) k
  upto_this k N = record { least = le_self (D k) N; first = λ _. omega arith }

  upto_through : (b : Best) (k i : ℕ) → T (le (D k) b.distance) → (T (le b.distance (D k)) → k ≤ b.outline) → Upto b i → Upto (this k) i
  upto_through b k i l f u = record {
    least = le_through (D k) b.distance (D i) l u.least;
    first = λ h.
        let p = f (le_through b.distance (D i) (D k) u.least h) in
        let q = u.first (le_through (D i) (D k) b.distance h l) in
        omega arith;
  }

  -- ---- the better of two
  record Better (n : ℕ) (b : Best) (k : ℕ) (r : Best) : Type 0 where
    among : Among n r
    new : Upto r k
    old : (i : ℕ) → Upto b i → Upto r i

  module _ (n : ℕ) (N : (k : ℕ) → k ≤ n → NotNan (D k)) (b : Best) (B : Among n b) (k : ℕ) (K : k ≤ n) where
    number : NotNan b.distance
    number = rw B.is (N b.outline B.within)

    -- it is replaced by the k-th
    replaced : T (le (D k) b.distance) → (T (le b.distance (D k)) → k ≤ b.outline) → Better n b k (this k)
    replaced l f = record { among = among_this n k K; new = upto_this k (N k K); old = λ i. upto_through b k i l f }

    kept : Upto b k → Better n b k b
    kept u = record { among = B; new = u; old = λ i h. h }

    less : lt (D k) b.distance ≡ true → Better n b k (this k)
    less e = replaced (below_le (D k) b.distance e) (λ h. absurd (below_not_le (D k) b.distance (subst T (sym e) tt) h))

    improved_better : Better n b k (improved b k (D k))
    unfolding improved
    improved_better = go (lt (D k) b.distance) refl (eq (D k) b.distance) refl (ltb k b.outline) refl
      where
        go : (s : Bool) → lt (D k) b.distance ≡ s → (t : Bool) → eq (D k) b.distance ≡ t → (u : Bool) → ltb k b.outline ≡ u → Better n b k (cond (s || (t && u)) (this k) b)
        go true e t f u g = less e
        go false e true f true g = replaced (level_le (D k) b.distance f) (λ _. let l = ltb-true k b.outline g in omega arith)
        go false e true f false g = kept (record { least = not_below (D k) b.distance (N k K) number e; first = λ _. ltb-false k b.outline g })
        go false e false f u g =
            let l = not_below (D k) b.distance (N k K) number e in
            kept (record { least = l; first = λ h. absurd (subst T f (le_level (D k) b.distance h l)) })

    closer_better : b.outline ≤ k → Better n b k (closer D b k)
    closer_better o = go (lt (D k) b.distance) refl
      where
        go : (s : Bool) → lt (D k) b.distance ≡ s → Better n b k (cond s (this k) b)
        go true e = less e
        go false e = kept (record { least = not_below (D k) b.distance (N k K) number e; first = λ _. o })

  -- ---- the best of a list
  pub record BestIs (n : ℕ) (b : Best) (ks : List ℕ) (r : Best) : Type 0 where
    pub among : Among n r
    pub new : (i : ℕ) → In i ks → Upto r i
    pub old : (i : ℕ) → Upto b i → Upto r i

  pub best_is : (n : ℕ) → ((k : ℕ) → k ≤ n → NotNan (D k)) → (ks : List ℕ) → ((i : ℕ) → In i ks → i ≤ n) → (b : Best) → Among n b → BestIs n b ks (best_of D b ks)
  unfolding best_of fold times
  best_is n N [] h b B = record { among = B; new = λ i k. absurd (omega arith); old = λ i u. u }
  best_is n N (k ∷ ks) h b B =
      let one = improved_better n N b B k (h k (in_first k ks)) in
      let r = best_is n N ks (λ i l. h i (in_rest i k ks l)) (improved b k (D k)) one.among in
      record {
        among = r.among;
        new = in_cons (λ i. Upto (best_of D (improved b k (D k)) ks) i) k ks (r.old k one.new) r.new;
        old = λ i u. r.old i (one.old i u);
      }

  -- ---- the least of the first n
  pub record LeastOutline (n : ℕ) (b : Best) : Type 0 where
    pub within : b.outline < n
    pub is : b.distance ≡ D b.outline
    pub upto : (i : ℕ) → i < n → Upto b i

  -- the best of the first i, and the next m one after the other
  swept : (n : ℕ) → ((k : ℕ) → k ≤ n → NotNan (D k)) → (i m : ℕ) (b : Best) → i + m ≤ suc n → b.outline < i → b.distance ≡ D b.outline → ((j : ℕ) → j < i → Upto b j) → LeastOutline (i + m) (fold (closer D) b (run (λ k. k) i m))
  unfolding fold run
  swept n N i zero b l o e u = let z : i + 0 ≡ i = omega arith in rw z (record { within = o; is = e; upto = u })
  swept n N i (suc m) b l o e u =
      let z : i + suc m ≡ suc i + m = omega arith in
      let B : Among n b = record { within = omega arith; is = e } in
      let r = closer_better n N b B i (omega arith) (omega arith) in
      rw z (swept n N (suc i) m (closer D b i) (omega arith) (place (lt (D i) b.distance)) r.among.is (λ j h. upto j h r (ℕ_discrete j i)))
    where
      place : (s : Bool) → (cond s (this i) b).outline < suc i
      place true = omega arith
      place false = omega arith

      upto : (j : ℕ) → j < suc i → Better n b i (closer D b i) → Dec (j ≡ i) → Upto (closer D b i) j
      upto j h r (yes z) = rw z r.new
      upto j h r (no a) = r.old j (u j (omega arith))

  pub least_of_lem : (n : ℕ) → 0 < n → ((k : ℕ) → k < n → NotNan (D k)) → LeastOutline n (least_of D n)
  unfolding least_of
  least_of_lem n p N =
      let z : 1 + (n - 1) ≡ n = omega arith in
      rw z at (swept (n - 1) (λ k h. N k (omega arith)) 1 (n - 1) (this 0) (omega arith) (omega arith) refl (λ j h. let y : j ≡ 0 = omega arith in rw y (upto_this 0 (N 0 (omega arith)))))

  -- there is only one
  pub least_only : (n : ℕ) (b c : Best) → LeastOutline n b → LeastOutline n c → b ≡ c
  least_only n b c B C =
      let p = B.upto c.outline C.within in
      let q = C.upto b.outline B.within in
      let l : T (le b.distance c.distance) = rw C.is p.least in
      let m : T (le c.distance b.distance) = rw B.is q.least in
      let o : b.outline ≡ c.outline = le_antisymm (p.first (rw C.is at m)) (q.first (rw B.is at l)) in
      let d : b.distance ≡ c.distance = B.is ∙ ap D o ∙ sym C.is in
      pair b c o d
    where
      pair : (b c : Best) → b.outline ≡ c.outline → b.distance ≡ c.distance → b ≡ c
      pair b c o d = ap₂ (λ (k : ℕ) (x : Float). record { outline = k; distance = x }) o d
