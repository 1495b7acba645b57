-- An outline's edges are the loop of its vertices: each joined to the next, and the last to the first. Assumes nothing.
use mathlib.Core.Path.{◌≡◌, refl, ap₂}
use mathlib.Core.List.{List, [], ◌∷◌}
use Prim.Native.Nat.{ℕ, zero, suc, ◌+◌}
use native.Mathlib.Numerals.{add-one}
use native.Mathlib.Omega.{arith}
use borrow.Author.Tests.{eq-eqb, ne_eqb}
use lib.Ieee.{Float}
use Rattle.boundary.specs.declared.Point.{Point}
use Rattle.boundary.specs.declared.Edge.{Edge}
use Rattle.lists.specs.Lists.{run}
use Rattle.boundary.specs.Outline.{count, vertex_at, after, edge_at, vertices, edges}

-- ---- loops, of points of any kind
module _ {A B : Type 0} (join : A → A → B) where
  -- from p through the points to z
  unfoldable pub path : A → List A → A → List B
  path p [] z = join p z ∷ []
  path p (q ∷ qs) z = join p q ∷ path q qs z

  unfoldable pub loop : List A → List B
  unfolding path
  loop [] = []
  loop (p ∷ ps) = path p ps p

  run_loop : (g : ℕ → A) (n i k : ℕ) → i + suc k ≡ n → run (λ m. join (g m) (g (after n m))) i (suc k) ≡ path (g i) (run g (suc i) k) (g 0)
  unfolding run path
  run_loop g n i zero h = rw (eq-eqb (i + 1) n (omega arith))
  run_loop g n i (suc k) h = rw (ne_eqb (i + 1) n (omega arith), add-one) (ap₂ ◌∷◌ refl (run_loop g n (suc i) k (omega arith)))

abbrev pub edge : Point → Point → Edge
edge a b = record { a = a; b = b }

pub edges_loop : (v : List Float) → edges v ≡ loop edge (vertices v)
unfolding edges vertices loop run
edges_loop v = go (count v) refl
  where
    go : (n : ℕ) → count v ≡ n → run (edge_at v) 0 (count v) ≡ loop edge (run (vertex_at v) 0 (count v))
    go zero e = rw e
    go (suc n) e = rw e (run_loop edge (vertex_at v) (count v) 0 n (omega arith))
