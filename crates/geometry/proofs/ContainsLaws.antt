-- `contains` begins with the edge that leaves the first vertex, the Rust with the one that ends there: the answer is the same. Assumes nothing.
use mathlib.Core.Path.{◌≡◌, refl, sym, ap, ◌∙◌}
use mathlib.Core.Bool.{Bool, true, false}
use mathlib.Core.List.{List, [], ◌∷◌, ◌++◌}
use Prim.Native.Nat.{ℕ, zero, suc, ◌+◌, ◌-◌, ◌<◌}
use native.Mathlib.Numerals.{add-one}
use native.Mathlib.Omega.{arith}
use borrow.Author.Tests.{eq-eqb, ne_eqb}
use lib.Ieee.{Float, unlike}
use Rattle.boundary.specs.declared.Point.{Point}
use Rattle.boundary.specs.declared.Edge.{Edge}
use Rattle.lists.specs.Lists.{run, fold, odd_many}
use Rattle.boundary.specs.Outline.{count, after, vertex_at, edges}
use Rattle.lists.proofs.RunLaws.{run_last, run_later}
use Rattle.lists.proofs.FoldLaws.{fold_last}
use Rattle.geometry.specs.Polygon.{crosses_of, contains_of, previous, contains_rust}

unlike_free : (a b c : Bool) → unlike (unlike a b) c ≡ unlike (unlike a c) b
unlike_free true true true = refl
unlike_free true true false = refl
unlike_free true false true = refl
unlike_free true false false = refl
unlike_free false true true = refl
unlike_free false true false = refl
unlike_free false false true = refl
unlike_free false false false = refl

-- over n points
module _ (g : ℕ → Point) where
  abbrev into : ℕ → ℕ → Edge
  into n i = record { a = g (previous n i); b = g i }

  abbrev out : ℕ → ℕ → Edge
  out n i = record { a = g i; b = g (after n i) }

  first : (k : ℕ) → into (suc k) 0 ≡ out (suc k) k
  first k = let e : suc k - 1 ≡ k = omega arith in rw (e, eq-eqb (k + 1) (suc k) (omega arith))

  later : (k j : ℕ) → j < k → into (suc k) (suc j) ≡ out (suc k) j
  later k j l =
      let e : suc j - 1 ≡ j = omega arith in
      rw (ne_eqb (suc j) 0 (λ h. omega arith), e, ne_eqb (j + 1) (suc k) (λ h. omega arith), add-one)

  -- the edges into the points are those out of them, the last of these first
  run_into : (k : ℕ) → run (into (suc k)) 0 (suc k) ≡ out (suc k) k ∷ run (out (suc k)) 0 k
  unfolding run
  run_into k = rw (first k, run_later (into (suc k)) (out (suc k)) 0 k (λ j l. later k j (omega arith)))

  oddly_into : (q : Edge → Bool) (n : ℕ) → odd_many q (run (out n) 0 n) ≡ odd_many q (run (into n) 0 n)
  unfolding odd_many fold run
  oddly_into q zero = refl
  oddly_into q (suc k) =
      let f : Bool → Edge → Bool = λ b e. unlike b (q e) in
      let last : run (out (suc k)) 0 (suc k) ≡ run (out (suc k)) 0 k ++ (out (suc k) k ∷ []) = run_last (out (suc k)) 0 k ∙ ap (λ j. run (out (suc k)) 0 k ++ (out (suc k) j ∷ [])) (omega arith) in
      ap (fold f false) last
      ∙ fold_last f (λ a x y. unlike_free a (q x) (q y)) false (out (suc k) k) (run (out (suc k)) 0 k)
      ∙ ap (fold f false) (sym (run_into k))

pub contains_rust_lem : (v : List Float) (p : Point) → contains_of (edges v) p ≡ contains_rust v p
unfolding contains_of contains_rust edges
contains_rust_lem v p = oddly_into (vertex_at v) (crosses_of p) (count v)
